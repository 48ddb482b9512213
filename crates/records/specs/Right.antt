-- Which records are refused, and with which number and place. Assumes nothing.
use Rattle.std.specs.Prelude.{◌≡◌, ℕ, ◌<◌, true, false, List, length, Some, None, Option, ◌≢◌}
use Rattle.sheet.specs.Graph.{Graph, parcels}
use Rattle.records.specs.declared.record.Record.{Record}
use Rattle.records.specs.Records.{astray}

-- no record below parcel u is astray
abbrev pub NoneAstray : {K : Type 0} → Graph K → List Record → ℕ → Type 0
NoneAstray t rs u = (v : ℕ) → v < u → astray t rs v ≡ false

-- there is a record for each parcel, and none is astray
pub record Right {K : Type 0} (t : Graph K) (rs : List Record) : Type 0 where
  pub long : length rs ≡ parcels t
  pub each : NoneAstray t rs (parcels t)

-- u is the lowest parcel whose record is astray
pub record FirstAstray {K : Type 0} (t : Graph K) (rs : List Record) (u : ℕ) : Type 0 where
  pub parcel : u < parcels t
  pub before : NoneAstray t rs u
  pub wrong : astray t rs u ≡ true

-- records are refused with this number at this place: not one for each parcel, or else the lowest one that is astray
pub data Refused {K : Type 0} (t : Graph K) (rs : List Record) : ℕ → ℕ → Type 0 where
  wrong_length : (length rs ≢ parcels t) → Refused t rs 12 0
  strays : {u : ℕ} → length rs ≡ parcels t → FirstAstray t rs u → Refused t rs 16 u

-- what the search for a record that is astray answers
abbrev pub Lowest : {K : Type 0} → Graph K → List Record → Option ℕ → Type 0
Lowest t rs None = NoneAstray t rs (parcels t)
Lowest t rs (Some u) = FirstAstray t rs u
