-- What outright pairing answers. Assumes nothing.
use Rattle.std.specs.Prelude.{◌≡◌, ℕ, ◌<◌, ◌≤◌, Bool, List, length, ◌≢◌}
use Rattle.sheet.specs.Graph.{Graph, parcels}
use Rattle.sheet.specs.Check.{Alike}
use Rattle.pairing.specs.Above.{greedy_pairing}
use Rattle.records.specs.Records.{Entire}
use Rattle.records.specs.declared.record.Record.{Record}

-- it refuses a worklist that is shorter than the parcels are many, and then records that are not one for each parcel
pub data Refused {K : Type 0} (t : Graph K) (rs : List Record) (work : List ℕ) : ℕ → ℕ → Type 0 where
  short_worklist : length work < parcels t → Refused t rs work 3 0
  wrong_length : parcels t ≤ length work → (length rs ≢ parcels t) → Refused t rs work 12 0

-- it is done: the tables had their lengths, and where the two keys of every pair rank alike, the records hold the greedy pairing entire
pub record Done {K : Type 0} (atleast : K → K → Bool) (t : Graph K) (rs : List Record) (work : List ℕ) (rs' : List Record) : Type 0 where
  pub room : parcels t ≤ length work
  pub long : length rs ≡ parcels t
  pub kept : length rs' ≡ parcels t
  pub entire : Alike atleast t → Entire t rs' (greedy_pairing atleast t)
