-- The pairs of a sheet. Assumes nothing.
use Rattle.std.specs.Prelude.{ℕ, zero, suc, ◌-◌, min, max, cond, ltb, List, [], ◌++◌, map, take, drop, None, filter, Option, nat_lt}
use Rattle.matching.specs.Pairs.{Pair}
use Rattle.sheet.specs.Graph.{Graph, parcels, row_start, row_end, place_of, key}

-- the pair of u and v
abbrev pub joint : ℕ → ℕ → Pair
joint u v = record { lo = min u v; hi = max u v }

-- the parcels that row u names
abbrev pub row : {K : Type 0} → Graph K → ℕ → List ℕ
row t u = take (row_end t u - row_start t u) (drop (row_start t u) t.others)

-- the pairs of u with the higher-numbered parcels of its row
abbrev pub upward : {K : Type 0} → Graph K → ℕ → List Pair
upward t u = map (joint u) (filter (ltb u) (row t u))

-- the pairs of the rows below n
abbrev pub pairs_below : {K : Type 0} → Graph K → ℕ → List Pair
pairs_below t zero = []
pairs_below t (suc u) = pairs_below t u ++ upward t u

-- the pairs of the sheet, each once
abbrev pub sheet_pairs : {K : Type 0} → Graph K → List Pair
sheet_pairs t = pairs_below t (parcels t)

-- the key of a pair, as the lower parcel's row has it; none if the row does not name the higher one
abbrev pub pair_key : {K : Type 0} → Graph K → Pair → Option K
pair_key t p = cond (nat_lt (place_of t p.lo p.hi) (row_end t p.lo)) (key t (place_of t p.lo p.hi)) None
