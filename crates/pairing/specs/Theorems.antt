-- What is claimed of the greedy pairing of a sheet, for one kind of key. Assumes nothing.
use Rattle.std.specs.Prelude.{◌≡◌, ℕ, ◌*◌, ◌<◌, ◌≤◌, Bool, true, ◌⊎◌, List, Some, None, sum_by, count_by, Option, nat_lt}
use Rattle.std.specs.List.{AllZip}
use Rattle.ranking.specs.Law.{lifted, alike}
use Rattle.ranking.specs.Kinds.{cents_atleast}
use Rattle.ranking.specs.declared.Cents.{Cents}
use Rattle.matching.specs.Pairs.{Pair, touch, same, ◌∈◌}
use Rattle.matching.specs.Stable.{Beaten, Stable, SamePairs}
use Rattle.matching.specs.Half.{Pairing}
use Rattle.sheet.specs.Graph.{Graph, InRow, other, key}
use Rattle.sheet.specs.Check.{Sound, Alike}
use Rattle.pairing.specs.Pairs.{joint, sheet_pairs, pair_key}
use Rattle.pairing.specs.Above.{above, entry_above, greedy_pairing}

-- an entry names a pair of the sheet, and every pair of the sheet is named by an entry of either parcel
abbrev pub PairsAreEntries : Type 0 → Type 0
PairsAreEntries K = (t : Graph K) → Sound t → ((u p : ℕ) → InRow t u p → joint u (other t p) ∈ sheet_pairs t)
    × ((q : Pair) → q ∈ sheet_pairs t → (q.lo < q.hi) × ((p : ℕ) × InRow t q.lo p × (other t p ≡ q.hi)) × ((p : ℕ) × InRow t q.hi p × (other t p ≡ q.lo)))

module _ {K : Type 0} (atleast : K → K → Bool) where
  -- the greedy pairing consists of pairs of the sheet, and uses no parcel twice
  abbrev pub UsesNoneTwice : Type 0
  UsesNoneTwice = (t : Graph K) → Pairing (sheet_pairs t) (greedy_pairing atleast t)

  -- every pair of the sheet is in it, or touches one of its pairs that stands above
  abbrev pub LeavesOnlyBeaten : Type 0
  LeavesOnlyBeaten = (t : Graph K) (q : Pair) → q ∈ sheet_pairs t → (q ∈ greedy_pairing atleast t) ⊎ Beaten (above atleast t) (greedy_pairing atleast t) q

  -- no other list is like that, order apart
  abbrev pub IsTheOnlyOne : Type 0
  IsTheOnlyOne = (t : Graph K) (M : List Pair) → Stable (above atleast t) (sheet_pairs t) M → SamePairs M (greedy_pairing atleast t)

  -- of two pairs that share v and have keys that rank alike, the one with the larger other parcel stands above
  abbrev pub TiesByNumber : Type 0
  TiesByNumber = (t : Graph K) (u v w : ℕ) → alike (lifted atleast) (pair_key t (joint u v)) (pair_key t (joint v w)) ≡ true → above atleast t (joint u v) (joint v w) ≡ nat_lt w u

  -- either key of a pair serves: the pair's key ranks alike with the key of each of its entries
  abbrev pub EitherKeyServes : Type 0
  EitherKeyServes = (t : Graph K) → Sound t → Alike atleast t → (u p : ℕ) → InRow t u p → alike (lifted atleast) (pair_key t (joint u (other t p))) (key t p) ≡ true

  -- within a row, pairs stand as their entries do
  abbrev pub RowsInOrder : Type 0
  RowsInOrder = (t : Graph K) → Sound t → Alike atleast t → (u p q : ℕ) → InRow t u p → InRow t u q → above atleast t (joint u (other t p)) (joint u (other t q)) ≡ entry_above atleast t p q

  -- n is a greedy pair that shares a parcel with o and has a key that is at least as high
  pub record Matches (t : Graph K) (o n : Pair) : Type 0 where
    pub chosen : n ∈ greedy_pairing atleast t
    pub touches : touch n o ≡ true
    pub no_lower : lifted atleast (pair_key t n) (pair_key t o) ≡ true

  -- such a pair for each pair of O, in order, and none for more than two
  pub record Matched (t : Graph K) (O : List Pair) : Type 0 where
    pub names : List Pair
    pub each : AllZip (Matches t) O names
    pub twice : (g : Pair) → count_by (same g) names ≤ 2

  -- against any other list of sheet pairs that uses no parcel twice
  abbrev pub TwoForOne : Type 0
  TwoForOne = (t : Graph K) (O : List Pair) → Pairing (sheet_pairs t) O → Matched t O

-- the cents of a key
abbrev pub cents_of : Option Cents → ℕ
cents_of None = 0
cents_of (Some k) = k.0

-- the cents of a pair
abbrev pub pair_cents : Graph Cents → Pair → ℕ
pair_cents t p = cents_of (pair_key t p)

-- in cents, no list of sheet pairs that uses no parcel twice comes to more than twice the greedy pairing
abbrev pub HalfTheCents : Type 0
HalfTheCents = (t : Graph Cents) (O : List Pair) → Pairing (sheet_pairs t) O → sum_by (pair_cents t) O ≤ 2 * sum_by (pair_cents t) (greedy_pairing cents_atleast t)
