-- Which pair stands above another, and the greedy pairing of a sheet. Assumes nothing.
use Rattle.std.specs.Prelude.{ℕ, Bool, not, ◌&&◌, ◌||◌, List, ◌==◌, nat_lt}
use Rattle.ranking.specs.Law.{lifted, alike}
use Rattle.matching.specs.Pairs.{Pair}
use Rattle.matching.specs.Greedy.{greedy}
use Rattle.sheet.specs.Graph.{Graph, key}
use Rattle.pairing.specs.Pairs.{pair_key, sheet_pairs}

-- of pairs whose keys rank alike: the one with the larger higher-numbered parcel, then with the larger lower-numbered one
abbrev pub later : Pair → Pair → Bool
later p q = nat_lt q.hi p.hi || (p.hi == q.hi && nat_lt q.lo p.lo)

-- p stands above q: its key ranks higher, or they rank alike and it is the later one
abbrev pub stands_above : {X : Type 0} → (X → X → Bool) → (Pair → X) → Pair → Pair → Bool
stands_above atleast key p q = not (atleast (key q) (key p)) || (alike atleast (key p) (key q) && later p q)

-- the order of the pairs of a sheet
abbrev pub above : {K : Type 0} → (K → K → Bool) → Graph K → Pair → Pair → Bool
above atleast t = stands_above (lifted atleast) (pair_key t)

-- of two entries of one row: the one with the higher key, and of keys that rank alike the later one
abbrev pub entry_above : {K : Type 0} → (K → K → Bool) → Graph K → ℕ → ℕ → Bool
entry_above atleast t p q = not (lifted atleast (key t q) (key t p)) || (alike (lifted atleast) (key t p) (key t q) && nat_lt q p)

-- the greedy pairing of a sheet
abbrev pub greedy_pairing : {K : Type 0} → (K → K → Bool) → Graph K → List Pair
greedy_pairing atleast t = greedy (above atleast t) (sheet_pairs t)
