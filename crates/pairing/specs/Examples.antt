-- Small sheets and their greedy pairings. Assumes nothing.
use Rattle.std.specs.Prelude.{◌≡◌, ℕ, [], ◌∷◌}
use Rattle.ranking.specs.Kinds.{cents_atleast, staged_atleast, cents_key, staged_key}
use Rattle.ranking.specs.declared.Cents.{Cents}
use Rattle.ranking.specs.declared.Staged.{Staged}
use Rattle.matching.specs.Pairs.{Pair}
use Rattle.sheet.specs.Graph.{Graph, no_parcels}
use Rattle.pairing.specs.Above.{greedy_pairing}

-- the key of so many cents
abbrev pub cents : ℕ → Cents
cents n = cents_key n 0

-- the pair with a as its lower parcel and b as its higher
abbrev pair : ℕ → ℕ → Pair
pair a b = record { lo = a; hi = b }

-- two parcels, at 0 cents
abbrev pub two : Graph Cents
two = record { starts = 0 ∷ 1 ∷ 2 ∷ []; others = 1 ∷ 0 ∷ []; keys = cents 0 ∷ cents 0 ∷ []; stores = 0 ∷ 0 ∷ []; editions = 21 ∷ 21 ∷ []; limit = 1 }

-- four parcels in a row, the first two in store 0 and the others in store 1, with any three keys
abbrev pub row_of_four : {K : Type 0} → K → K → K → Graph K
row_of_four a b c = record {
  starts = 0 ∷ 1 ∷ 3 ∷ 5 ∷ 6 ∷ [];
  others = 1 ∷ 0 ∷ 2 ∷ 1 ∷ 3 ∷ 2 ∷ [];
  keys = a ∷ a ∷ b ∷ b ∷ c ∷ c ∷ [];
  stores = 0 ∷ 0 ∷ 1 ∷ 1 ∷ [];
  editions = 21 ∷ 21 ∷ 21 ∷ 21 ∷ [];
  limit = 2;
}

-- such a row at 5, 9 and 7 cents
abbrev pub path : Graph Cents
path = row_of_four (cents 5) (cents 9) (cents 7)

-- three parcels, each with both others, all at 7 cents
abbrev pub triangle : Graph Cents
triangle = record {
  starts = 0 ∷ 2 ∷ 4 ∷ 6 ∷ [];
  others = 1 ∷ 2 ∷ 0 ∷ 2 ∷ 0 ∷ 1 ∷ [];
  keys = cents 7 ∷ cents 7 ∷ cents 7 ∷ cents 7 ∷ cents 7 ∷ cents 7 ∷ [];
  stores = 0 ∷ 0 ∷ 0 ∷ [];
  editions = 21 ∷ 21 ∷ 21 ∷ [];
  limit = 1;
}

-- four parcels in a ring, all at 7 cents
abbrev pub ring : Graph Cents
ring = record {
  starts = 0 ∷ 2 ∷ 4 ∷ 6 ∷ 8 ∷ [];
  others = 1 ∷ 3 ∷ 0 ∷ 2 ∷ 1 ∷ 3 ∷ 0 ∷ 2 ∷ [];
  keys = cents 7 ∷ cents 7 ∷ cents 7 ∷ cents 7 ∷ cents 7 ∷ cents 7 ∷ cents 7 ∷ cents 7 ∷ [];
  stores = 0 ∷ 0 ∷ 0 ∷ 0 ∷ [];
  editions = 21 ∷ 21 ∷ 21 ∷ 21 ∷ [];
  limit = 1;
}

-- three parcels in a row: a coarse band at 900 cents, and a finer one at 10
abbrev pub finer : Graph Staged
finer = record {
  starts = 0 ∷ 1 ∷ 3 ∷ 4 ∷ [];
  others = 1 ∷ 0 ∷ 2 ∷ 1 ∷ [];
  keys = staged_key 3 900 ∷ staged_key 3 900 ∷ staged_key 2 10 ∷ staged_key 2 10 ∷ [];
  stores = 0 ∷ 0 ∷ 0 ∷ [];
  editions = 21 ∷ 21 ∷ 21 ∷ [];
  limit = 1;
}

-- their greedy pairings, in the order taken
abbrev pub KnownPairings : Type 0
KnownPairings = (greedy_pairing cents_atleast no_parcels ≡ [])
    × (greedy_pairing cents_atleast two ≡ pair 0 1 ∷ [])
    × (greedy_pairing cents_atleast path ≡ pair 1 2 ∷ [])
    × (greedy_pairing cents_atleast triangle ≡ pair 1 2 ∷ [])
    × (greedy_pairing cents_atleast ring ≡ pair 2 3 ∷ pair 0 1 ∷ [])
    × (greedy_pairing staged_atleast finer ≡ pair 1 2 ∷ [])
