-- What holds of every parcel and every entry of a sheet that is written out, by computing. Assumes nothing.
use Rattle.std.proofs.Common.{◌≡◌, ℕ, zero, suc, ◌<◌, Bool, true, ◌&&◌, eqb, ltb, leb, refl, ap, ◌∙◌, ⊎_elim, arith}
use Rattle.std.proofs.lemmas.Bool.{and_parts, cases_eq, eqb-true, le-leb, lt-ltb, leb-true, ltb-true, and_from}
use Rattle.std.proofs.lemmas.Bool.Decides.{nat_tests}
use Rattle.sheet.specs.Graph.{Graph, parcels, entries, row_start, row_end, InRow, sized, fitted, bare_right, parcel_right, implies}
use Rattle.sheet.specs.Check.{Passed, Refused, entry, ParcelsRight, entry_fault}
use Rattle.sheet.proofs.Facts.{parcel_facts}
use Rattle.sheet.proofs.Verdict.{passes}

-- the test holds of every number below n
abbrev pub all_below : ℕ → (ℕ → Bool) → Bool
all_below zero test = true
all_below (suc n) test = test n && all_below n test

pub each_below : (n : ℕ) (test : ℕ → Bool) → all_below n test ≡ true → (k : ℕ) → k < n → test k ≡ true
each_below zero test e k less = absurd (omega arith)
each_below (suc n) test e k less =
    let parts = and_parts (test n) (all_below n test) e in
    ⊎_elim (λ is. ap test is ∙ parts.0) (λ not. each_below n test parts.1 k (omega arith)) (cases_eq k n)

-- what an implication of tests gives
implied : (a b : Bool) → implies a b ≡ true → a ≡ true → b ≡ true
implied a b e h = grind (arith, nat_tests)

module _ {K : Type 0} (atleast : K → K → Bool) (t : Graph K) where
  -- place p stands in row u
  abbrev pub in_row : ℕ → ℕ → Bool
  in_row u p = leb (row_start t u) p && ltb p (row_end t u)

  row_in : (u p : ℕ) → InRow t u p → in_row u p ≡ true
  row_in u p within = and_from (leb (row_start t u) p) (ltb p (row_end t u)) (le-leb (row_start t u) p within.from) (lt-ltb p (row_end t u) within.to)

  in_the_row : (u p : ℕ) → u < parcels t → in_row u p ≡ true → InRow t u p
  in_the_row u p parcel e =
      let parts = and_parts (leb (row_start t u) p) (ltb p (row_end t u)) e in
      record { parcel = parcel; from = leb-true (row_start t u) p parts.0; to = ltb-true p (row_end t u) parts.1 }

  -- no entry before place n has a fault
  abbrev pub right_before : ℕ → Bool
  right_before n = all_below (parcels t) (λ u. all_below n (λ p. implies (in_row u p) (eqb (entry_fault atleast t u p) 0)))

  right_entry : (n : ℕ) → right_before n ≡ true → (u p : ℕ) → InRow t u p → p < n → entry_fault atleast t u p ≡ 0
  right_entry n e u p within less =
      let row = each_below (parcels t) (λ v. all_below n (λ q. implies (in_row v q) (eqb (entry_fault atleast t v q) 0))) e u within.parcel in
      eqb-true (entry_fault atleast t u p) 0 (implied (in_row u p) (eqb (entry_fault atleast t u p) 0) (each_below n (λ q. implies (in_row u q) (eqb (entry_fault atleast t u q) 0)) row p less) (row_in u p within))

  module _ (sizes : sized t ≡ true) (lengths : fitted t ≡ true) (bare : bare_right t ≡ true) (rows : all_below (parcels t) (parcel_right t) ≡ true) where
    parcels_right : ParcelsRight t (parcels t)
    parcels_right = record { bare = bare; each = each_below (parcels t) (parcel_right t) rows }

    pub passes_by : right_before (entries t) ≡ true → Passed atleast t
    passes_by e = passes atleast t sizes lengths parcels_right (λ u p within. right_entry (entries t) e u p within (omega (arith, within.to, (parcel_facts t u (parcels_right.each u within.parcel)).within)))

    -- the entry at place p of row u is the first that has a fault
    pub refused_by : (u p : ℕ) → u < parcels t → in_row u p ≡ true → right_before p ≡ true → 0 < entry_fault atleast t u p → Refused atleast t (entry_fault atleast t u p) p
    refused_by u p parcel here before wrong =
        entry sizes lengths parcels_right (record { row = u; within = in_the_row u p parcel here; before = λ v q within less. right_entry p before v q within less; lowest = refl; wrong = wrong })
