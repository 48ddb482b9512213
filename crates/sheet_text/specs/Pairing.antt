-- What comes of pairing the text of a cents sheet. Assumes nothing.
use Rattle.std.specs.Prelude.{◌≡◌, ℕ, ◌<◌, ◌≤◌, List, length, Ok, Err, Result}
use Rattle.faults.specs.declared.Refusal.{Refusal}
use Rattle.faults.specs.Numbers.{number}
use Rattle.ranking.specs.declared.Cents.{Cents}
use Rattle.ranking.specs.Kinds.{cents_atleast}
use Rattle.reading.specs.declared.Sizes.{Sizes}
use Rattle.reading.specs.Listing.{Listing}
use Rattle.reading.specs.Outcome.{Tables, laid}
use Rattle.sheet.specs.Graph.{Graph}
use Rattle.records.specs.declared.record.Record.{Record}
use Rattle.records.specs.declared.ledger.Totals.{Totals}
use Rattle.records.specs.Listed.{lower_pairs}
use Rattle.results.specs.Text.{result_text, Printed}
use Rattle.chains.specs.declared.Slot.{Slot}
use Rattle.protocol.specs.World.{World}
use Rattle.rounds.specs.Settling.{CameTo, Settles}
use Rattle.sheet_text.specs.Checking.{sheet_of, Checks, TextRefused}

-- the memory that is lent: for the sheet's tables, for the round, and for the result text
pub record Memory : Type 0 where
  pub tables : Tables Cents
  pub records : List Record
  pub marks : List ℕ
  pub slots : List Slot
  pub out : List ℕ

-- the memory made of these five
abbrev pub memory : Tables Cents → List Record → List ℕ → List Slot → List ℕ → Memory
memory tables records marks slots out = record { tables = tables; records = records; marks = marks; slots = slots; out = out }

-- the memory for the round suffices: a record for each parcel, a mark and a slot for each entry
pub record Enough (z : Sizes) (m : Memory) : Type 0 where
  pub records : z.parcels ≤ length m.records
  pub marks : z.entries ≤ length m.marks
  pub slots : z.entries ≤ length m.slots

-- the memory for the round is as it was
pub record Untouched (before after : Memory) : Type 0 where
  pub records : after.records ≡ before.records
  pub marks : after.marks ≡ before.marks
  pub slots : after.slots ≡ before.slots

-- a round of the sheet was opened and run until still, and is settled with these totals: these are its records and marks, and the records hold the greedy pairing entire
pub record Settled (t : Graph Cents) (rs : List Record) (ms : List ℕ) (x : Totals) : Type 0 where
  pub end : World
  pub came : CameTo cents_atleast t end
  pub settles : Settles cents_atleast t end x
  pub recorded : end.records ≡ rs
  pub marked : end.marks ≡ ms

-- the text is that of a checked sheet, its round was settled, and the first of the lent records and marks are those of the round; the slots hold any notes
pub record Rounds (bs : List ℕ) (before after : Memory) (l : Listing) (rs : List Record) (ms : List ℕ) (x : Totals) : Type 0 where
  pub checks : Checks bs before.tables after.tables l
  pub enough : Enough l.sizes before
  pub settled : Settled (sheet_of l) rs ms x
  pub recorded : after.records ≡ laid rs before.records
  pub marked : after.marks ≡ laid ms before.marks

-- the text was paired: `out` begins with the result text, of so many bytes, and keeps what stood past it
pub record Paired (bs : List ℕ) (before after : Memory) (count : ℕ) : Type 0 where
  pub listing : Listing
  pub records : List Record
  pub marks : List ℕ
  pub totals : Totals
  pub rounds : Rounds bs before after listing records marks totals
  pub printed : Printed (sheet_of listing) records totals before.out after.out count

-- the pairing is refused with this number at this place: the text; or else too little memory for the round; or else an `out` that is shorter than the result text
pub data Unpaired (bs : List ℕ) (before after : Memory) : ℕ → ℕ → Type 0 where
  by_text : {k p : ℕ} → TextRefused bs before.tables after.tables k p → Untouched before after → Unpaired bs before after k p
  by_memory : {l : Listing} → Checks bs before.tables after.tables l → (Enough l.sizes before → ⊥) → Untouched before after → Unpaired bs before after 3 0
  by_out : {l : Listing} {rs : List Record} {ms : List ℕ} {x : Totals} → Rounds bs before after l rs ms x → length before.out < length (result_text x (lower_pairs (sheet_of l) rs)) → Unpaired bs before after 3 0

-- what pairing a text answers: how many bytes it wrote, or why it is refused, and then `out` stays
abbrev pub Pairing : List ℕ → Memory → Result ℕ (Refusal × ℕ) → Memory → Type 0
Pairing bs before (Ok count) after = Paired bs before after count
Pairing bs before (Err f) after = Unpaired bs before after (number f.0) f.1 × (after.out ≡ before.out)

-- what settling a checked sheet and printing it answers, where the memory for the round suffices
abbrev pub SettlesAndPrints : Graph Cents → List Record → List ℕ → List ℕ → Result ℕ (Refusal × ℕ) → List ℕ → Type 0
SettlesAndPrints t rs ms old (Ok count) new = (x : Totals) × Settled t rs ms x × Printed t rs x old new count
SettlesAndPrints t rs ms old (Err f) new = (x : Totals) × Settled t rs ms x × (length old < length (result_text x (lower_pairs t rs))) × (number f.0 ≡ 3) × (f.1 ≡ 0) × (new ≡ old)
