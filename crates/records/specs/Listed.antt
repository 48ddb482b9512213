-- The recorded pairs in one list, and what is counted of records. Assumes nothing.
use Rattle.std.specs.Prelude.{ℕ, ◌<◌, Bool, cond, ◌&&◌, List, [], ◌∷◌, map, Some, None, count_by, filter, Option, ◌==◌, nat_eq, nat_lt}
use Rattle.std.specs.List.{range_with_len}
use Rattle.matching.specs.Pairs.{Pair, ◌∈◌}
use Rattle.sheet.specs.Graph.{Graph, parcels, row_end}
use Rattle.records.specs.declared.record.Record.{Record}
use Rattle.records.specs.Records.{state, chosen_place, chosen, RecordsPair}

-- u records a pair with a higher-numbered parcel
abbrev pub pairs_up : {K : Type 0} → Graph K → List Record → ℕ → Bool
pairs_up t rs u = state rs u == 2 && (nat_lt (chosen_place t rs u) (row_end t u) && nat_lt u (chosen t rs u))

-- that parcel, if u records such a pair
abbrev pub partner_above : {K : Type 0} → Graph K → List Record → ℕ → Option ℕ
partner_above t rs u = cond (pairs_up t rs u) (Some (chosen t rs u)) None

-- u and the parcel that it chose
abbrev pub own_pair : {K : Type 0} → Graph K → List Record → ℕ → Pair
own_pair t rs u = record { lo = u; hi = chosen t rs u }

-- the pairs that the parcels below n record with higher-numbered ones, rising by the lower parcel
abbrev pub pairs_below : {K : Type 0} → Graph K → List Record → ℕ → List Pair
pairs_below t rs n = map (own_pair t rs) (filter (pairs_up t rs) (range_with_len 0 n))

-- the recorded pairs: each from its lower parcel's record, rising by that parcel
abbrev pub lower_pairs : {K : Type 0} → Graph K → List Record → List Pair
lower_pairs t rs = pairs_below t rs (parcels t)

-- how many parcels below n are recorded lone
abbrev pub lone_below : List Record → ℕ → ℕ
lone_below rs n = count_by (λ u. nat_eq (state rs u) 3) (range_with_len 0 n)

-- how many parcels are recorded lone
abbrev pub lone_count : {K : Type 0} → Graph K → List Record → ℕ
lone_count t rs = lone_below rs (parcels t)

-- each pair of the list has its lower parcel below those of all after it
abbrev pub Rising : List Pair → Type 0
Rising [] = Unit {0}
Rising (p ∷ ps) = ((q : Pair) → q ∈ ps → p.lo < q.lo) × Rising ps

-- the list has just the pairs that a parcel records with a higher-numbered one, and rises
pub record Listed {K : Type 0} (t : Graph K) (rs : List Record) (ps : List Pair) : Type 0 where
  pub sound : (p : Pair) → p ∈ ps → RecordsPair t rs p.lo p.hi × (p.lo < p.hi)
  pub whole : (u v : ℕ) → RecordsPair t rs u v → u < v → record { lo = u; hi = v } ∈ ps
  pub rising : Rising ps
