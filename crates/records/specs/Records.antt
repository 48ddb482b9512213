-- What records say of a sheet. Assumes nothing.
use Rattle.std.specs.Prelude.{◌≡◌, ℕ, ◌+◌, ◌<◌, Bool, true, cond, ◌&&◌, ◌||◌, List, length, Some, None, Option, ◌==◌, ◌≢◌, nat_le, nat_lt, slice_index_or}
use Rattle.matching.specs.Pairs.{Pair, holds, ◌∈◌}
use Rattle.sheet.specs.Graph.{Graph, parcels, row_start, row_end, other}
use Rattle.records.specs.declared.record.Record.{Record}

-- the record of parcel u
abbrev pub record_of : List Record → ℕ → Record
record_of rs u = slice_index_or rs u (record { state = 0; choice = 0 })

-- the state of parcel u
abbrev pub state : List Record → ℕ → ℕ
state rs u = (record_of rs u).state

-- the choice of parcel u
abbrev pub choice : List Record → ℕ → ℕ
choice rs u = (record_of rs u).choice

-- the place of the entry that u chose
abbrev pub chosen_place : {K : Type 0} → Graph K → List Record → ℕ → ℕ
chosen_place t rs u = row_start t u + choice rs u

-- the parcel that u chose
abbrev pub chosen : {K : Type 0} → Graph K → List Record → ℕ → ℕ
chosen t rs u = other t (chosen_place t rs u)

-- the record of u is out of range: a state above 3, or a state 1 or 2 with a choice outside the row
abbrev pub astray : {K : Type 0} → Graph K → List Record → ℕ → Bool
astray t rs u = nat_lt 3 (state rs u) || ((state rs u == 1 || state rs u == 2) && nat_le (row_end t u) (chosen_place t rs u))

-- that, if u is a parcel and there is a record for each
abbrev pub strays_at : {K : Type 0} → Graph K → List Record → ℕ → Option Bool
strays_at t rs u = cond (length rs == parcels t && nat_lt u (parcels t)) (Some (astray t rs u)) None

-- u records the pair of itself and v
pub record RecordsPair {K : Type 0} (t : Graph K) (rs : List Record) (u v : ℕ) : Type 0 where
  pub parcel : u < parcels t
  pub paired : state rs u ≡ 2
  pub within : chosen_place t rs u < row_end t u
  pub with' : chosen t rs u ≡ v

-- the record of a lone parcel
abbrev pub lone_record : Record
lone_record = record { state = 3; choice = 0 }

-- u is recorded lone, with choice 0
pub record RecordsLone (rs : List Record) (u : ℕ) : Type 0 where
  pub lone : state rs u ≡ 3
  pub none : choice rs u ≡ 0

-- a pairing is recorded entire: each of its pairs at both parcels, and each parcel that is in none of them as lone
pub record Entire {K : Type 0} (t : Graph K) (rs : List Record) (M : List Pair) : Type 0 where
  pub long : length rs ≡ parcels t
  pub lower : (p : Pair) → p ∈ M → RecordsPair t rs p.lo p.hi
  pub higher : (p : Pair) → p ∈ M → RecordsPair t rs p.hi p.lo
  pub alone : (u : ℕ) → u < parcels t → ((p : Pair) → p ∈ M → holds p u ≢ true) → RecordsLone rs u
