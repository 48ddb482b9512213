-- The pair of a list that stands above all others. Assumes nothing.
use Rattle.std.specs.Prelude.{◌≡◌, ℕ, ◌<◌, false, List, length, Some, None, Option, slice_index_or}
use Rattle.all_orders.specs.declared.small.Pair.{Pair}
use Rattle.all_orders.specs.Pairs.{standing_above}

-- the pair at place k of the list
abbrev pub pair_at : List Pair → ℕ → Pair
pair_at ps k = slice_index_or ps k (record { low = 0; high = 0; cents = 0 })

-- of the first n pairs of a list it is one, and none stands above it; there is none where n is 0
abbrev pub TopOfFirst : List Pair → ℕ → Option Pair → Type 0
TopOfFirst ps n None = n ≡ 0
TopOfFirst ps n (Some m) =
    ((k : ℕ) × (k < n) × (pair_at ps k ≡ m)) × ((k : ℕ) → k < n → standing_above (pair_at ps k) m ≡ false)

-- of a whole list it is one, and none stands above it; there is none where the list is empty
abbrev pub Highest : List Pair → Option Pair → Type 0
Highest ps r = TopOfFirst ps (length ps) r
