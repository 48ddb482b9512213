-- Opening and closing a round: what each answers. Assumes nothing.
use Rattle.std.specs.Prelude.{◌≡◌, ℕ, ◌<◌, ◌≤◌, true, false, ◌⊎◌, List, [], length, Some, None, Option, ◌≢◌}
use Rattle.line.specs.declared.Note.{Note}
use Rattle.records.specs.declared.record.Record.{Record}
use Rattle.records.specs.declared.ledger.Tally.{Tally}
use Rattle.records.specs.declared.ledger.Totals.{Totals}
use Rattle.records.specs.Records.{state}
use Rattle.records.specs.Right.{Right, FirstAstray}
use Rattle.records.specs.Listed.{lower_pairs, lone_count}
use Rattle.sheet.specs.Graph.{Graph, parcels, entries}
use Rattle.protocol.specs.World.{World, fits}
use Rattle.protocol.specs.Law.{Settled}

-- open is refused: a line that is not empty or holds fewer notes than there are entries, or else tables of other lengths
pub data OpenRefused {K : Type 0} (t : Graph K) (rs : List Record) (m : List ℕ) (waiting : List Note) (capacity : ℕ) : ℕ → ℕ → Type 0 where
  line_unfit : (waiting ≡ [] → entries t ≤ capacity → ⊥) → OpenRefused t rs m waiting capacity 11 0
  wrong_length : waiting ≡ [] → entries t ≤ capacity → (length rs ≡ parcels t → length m ≢ entries t) → OpenRefused t rs m waiting capacity 12 0

-- this round can be opened: its sizes are the sheet's, both counts are 0, the tables have the sheet's lengths, and the line is empty, with room for the entries
pub record Openable {K : Type 0} (t : Graph K) (w : World) : Type 0 where
  pub parcel_count : w.parcel_count ≡ parcels t
  pub entry_count : w.entry_count ≡ entries t
  pub store_count : w.store_count ≡ t.limit
  pub turns : w.turns ≡ 0
  pub sent : w.sent ≡ 0
  pub records_long : length w.records ≡ parcels t
  pub marks_long : length w.marks ≡ entries t
  pub empty : w.waiting ≡ []
  pub room : entries t ≤ w.capacity

-- parcel u is idle or waits
abbrev pub Undecided : World → ℕ → Type 0
Undecided w u = (state w.records u ≡ 0) ⊎ (state w.records u ≡ 1)

-- no parcel below u is idle or waits
abbrev pub DecidedBelow : World → ℕ → Type 0
DecidedBelow w u = (v : ℕ) → v < u → (state w.records v ≡ 2) ⊎ (state w.records v ≡ 3)

-- close is refused: other sizes, the lowest record out of range, the lowest parcel that is idle or waits, or else a note that waits
pub data CloseRefused {K : Type 0} (t : Graph K) (w : World) : ℕ → ℕ → Type 0 where
  other_sizes : fits t w ≡ false → CloseRefused t w 12 0
  strays : {u : ℕ} → fits t w ≡ true → FirstAstray t w.records u → CloseRefused t w 16 u
  undecided : {u : ℕ} → fits t w ≡ true → Right t w.records → u < parcels t → Undecided w u → DecidedBelow w u → CloseRefused t w 18 u
  waiting : fits t w ≡ true → Right t w.records → DecidedBelow w (parcels t) → (w.waiting ≢ []) → CloseRefused t w 18 (parcels t)

-- a round can be closed: the sizes fit, no record is out of range, and it is settled
pub record Closable {K : Type 0} (t : Graph K) (w : World) : Type 0 where
  pub fitting : fits t w ≡ true
  pub right : Right t w.records
  pub settled : Settled t w

-- the recorded pairs and lone parcels, counted
pub record Counts {K : Type 0} (t : Graph K) (rs : List Record) (x : Tally) : Type 0 where
  pub pairs : x.pairs ≡ length (lower_pairs t rs)
  pub lone : x.lone ≡ lone_count t rs

-- close answers the pairs made, the lone parcels, the notes sent and the accepted turns
pub record Closed {K : Type 0} (t : Graph K) (w : World) (x : Totals) : Type 0 where
  pub closable : Closable t w
  pub pairs : x.tally.pairs ≡ length (lower_pairs t w.records)
  pub lone : x.tally.lone ≡ lone_count t w.records
  pub sent : x.sent ≡ w.sent
  pub turns : x.turns ≡ w.turns

-- what the search for a parcel that is idle or waits answers
abbrev pub FirstUndecided : {K : Type 0} → Graph K → List Record → Option ℕ → Type 0
FirstUndecided t rs None = (v : ℕ) → v < parcels t → (state rs v ≡ 2) ⊎ (state rs v ≡ 3)
FirstUndecided t rs (Some u) = (u < parcels t) × ((state rs u ≡ 0) ⊎ (state rs u ≡ 1)) × ((v : ℕ) → v < u → (state rs v ≡ 2) ⊎ (state rs v ≡ 3))
