-- Checking and pairing a text with memory of one's own, for so many parcels and entries. Assumes nothing.
use Rattle.std.specs.Prelude.{◌≡◌, ℕ, ◌+◌, List, length, Result}
use Rattle.faults.specs.declared.Refusal.{Refusal}
use Rattle.ranking.specs.declared.Cents.{Cents}
use Rattle.reading.specs.declared.Sizes.{Sizes}
use Rattle.reading.specs.Outcome.{Tables}
use Rattle.sheet_text.specs.Checking.{Checking}
use Rattle.sheet_text.specs.Pairing.{Memory, Pairing}

-- tables for n parcels and e entries
pub record TablesFor (n e : ℕ) (t : Tables Cents) : Type 0 where
  pub starts : length t.starts ≡ n + 1
  pub others : length t.others ≡ e
  pub keys : length t.keys ≡ e
  pub stores : length t.stores ≡ n
  pub editions : length t.editions ≡ n

-- memory for a sheet of n parcels and e entries, and for its round
pub record MemoryFor (n e : ℕ) (m : Memory) : Type 0 where
  pub tables : TablesFor n e m.tables
  pub records : length m.records ≡ n
  pub marks : length m.marks ≡ e
  pub slots : length m.slots ≡ e

-- what checking a text answers with tables for n parcels and e entries
pub record CheckingWithin (n e : ℕ) (bs : List ℕ) (r : Result Sizes (Refusal × ℕ)) : Type 0 where
  pub before : Tables Cents
  pub after : Tables Cents
  pub sized : TablesFor n e before
  pub checking : Checking bs before r after

-- what pairing a text answers with memory for n parcels and e entries, and what `out` holds before and after
pub record PairingWithin (n e : ℕ) (bs old : List ℕ) (r : Result ℕ (Refusal × ℕ)) (new : List ℕ) : Type 0 where
  pub before : Memory
  pub after : Memory
  pub sized : MemoryFor n e before
  pub out_before : before.out ≡ old
  pub out_after : after.out ≡ new
  pub pairing : Pairing bs before r after
