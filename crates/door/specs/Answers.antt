-- What C is answered: a refusal is told by its number, which is not 0. Assumes nothing.
use Rattle.std.specs.Prelude.{◌≡◌, ℕ, ◌<◌, List, length, Ok, Err, Result}
use Rattle.faults.specs.declared.Refusal.{Refusal}
use Rattle.faults.specs.Numbers.{number}
use Rattle.reading.specs.declared.Sizes.{Sizes}
use Rattle.reading.specs.Listing.{Listing, Listed}
use Rattle.records.specs.declared.record.Record.{Record}
use Rattle.records.specs.declared.ledger.Totals.{Totals}
use Rattle.records.specs.Listed.{lower_pairs}
use Rattle.results.specs.Text.{result_text}
use Rattle.sheet_text.specs.Checking.{sheet_of}
use Rattle.sheet_text.specs.Pairing.{Settled}
use Rattle.door.specs.declared.Answer.{Answer}
use Rattle.door.specs.declared.Verdict.{Verdict}

-- the bytes written, or the number and the place of a refusal
abbrev pub Answers : Answer → Result ℕ (Refusal × ℕ) → Type 0
Answers a (Ok count) = a ≡ record { written = count; number = 0; place = 0 }
Answers a (Err f) = (a ≡ record { written = 0; number = number f.0; place = f.1 }) × (0 < number f.0)

-- the sizes of the sheet, or the number and the place of a refusal
abbrev pub Decides : Verdict → Result Sizes (Refusal × ℕ) → Type 0
Decides v (Ok z) = v ≡ record { parcels = z.parcels; entries = z.entries; stores = z.stores; number = 0; place = 0 }
Decides v (Err f) = (v ≡ record { parcels = 0; entries = 0; stores = 0; number = number f.0; place = f.1 }) × (0 < number f.0)

-- so many bytes are fewer than the result text of this text has
pub record Short (bs : List ℕ) (room : ℕ) : Type 0 where
  pub listing : Listing
  pub records : List Record
  pub marks : List ℕ
  pub totals : Totals
  pub listed : Listed 1 listing bs
  pub settled : Settled (sheet_of listing) records marks totals
  pub less : room < length (result_text totals (lower_pairs (sheet_of listing) records))
