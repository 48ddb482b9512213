-- What the tests of a sheet tell, as facts about numbers. Assumes nothing.
use Rattle.std.proofs.Common.{◌≡◌, ℕ, ◌+◌, ◌-◌, ◌<◌, ◌≤◌, true, length, get_or, arith}
use Rattle.std.proofs.lemmas.Bool.Decides.{nat_tests}
use Rattle.sheet.specs.Graph.{Graph, parcels, entries, row_start, row_end, other, sized, fitted, parcel_right, rises}

module _ {K : Type 0} (t : Graph K) where
  pub record SizedFacts : Type 0 where
    pub parcels_few : parcels t ≤ 1024
    pub entries_few : entries t ≤ 16384
    pub some_store : 1 ≤ t.limit
    pub stores_few : t.limit ≤ 64

  pub sized_facts : sized t ≡ true → SizedFacts
  sized_facts h = record { parcels_few = grind (arith, nat_tests); entries_few = grind (arith, nat_tests); some_store = grind (arith, nat_tests); stores_few = grind (arith, nat_tests) }

  pub record FittedFacts : Type 0 where
    pub starts_long : length t.starts ≡ parcels t + 1
    pub keys_long : length t.keys ≡ entries t
    pub editions_long : length t.editions ≡ parcels t

  pub fitted_facts : fitted t ≡ true → FittedFacts
  fitted_facts h = record { starts_long = grind (arith, nat_tests); keys_long = grind (arith, nat_tests); editions_long = grind (arith, nat_tests) }

  pub record ParcelFacts (u : ℕ) : Type 0 where
    pub first : u ≡ 0 → row_start t u ≡ 0
    pub forward : row_start t u ≤ row_end t u
    pub within : row_end t u ≤ entries t
    pub last : u + 1 ≡ parcels t → row_end t u ≡ entries t
    pub stored : get_or t.stores u 0 < t.limit

  pub parcel_facts : (u : ℕ) → parcel_right t u ≡ true → ParcelFacts u
  parcel_facts u h = record {
    first = λ e. grind (arith, nat_tests);
    forward = grind (arith, nat_tests);
    within = grind (arith, nat_tests);
    last = λ e. grind (arith, nat_tests);
    stored = grind (arith, nat_tests);
  }

  pub record EntryFacts (u p : ℕ) : Type 0 where
    pub below : other t p < parcels t
    pub not_own : other t p ≡ u → ⊥
    pub above_last : row_start t u < p → other t (p - 1) < other t p

  pub entry_facts : (u p : ℕ) → rises t u p ≡ true → EntryFacts u p
  entry_facts u p h = record { below = grind (arith, nat_tests); not_own = λ e. grind (arith, nat_tests); above_last = λ e. grind (arith, nat_tests) }
