-- The check passes where nothing is wrong, and only there. Assumes nothing.
use Rattle.std.proofs.Common.{◌≡◌, ℕ, Bool, true, [], ◌∷◌, ◌∙◌, ⊎_elim, arith}
use Rattle.std.proofs.lemmas.Bool.{both_ways}
use Rattle.sheet.specs.Graph.{Graph, parcels, InRow, sized, fitted, rises, mirrored, sides_alike, one_edition}
use Rattle.sheet.specs.Check.{Passed, Refused, size, table, parcel, entry, ParcelsRight, first_failed, entry_fault}

-- a list of tests has no fault exactly where each holds
pub none_failed : (a b c d : Bool) → first_failed ((a, 5) ∷ (b, 6) ∷ (c, 7) ∷ (d, 8) ∷ []) ≡ 0 → (a ≡ true) × (b ≡ true) × (c ≡ true) × (d ≡ true)
none_failed a b c d e = (grind arith, grind arith, grind arith, grind arith)

all_hold : (a b c d : Bool) → a ≡ true → b ≡ true → c ≡ true → d ≡ true → first_failed ((a, 5) ∷ (b, 6) ∷ (c, 7) ∷ (d, 8) ∷ []) ≡ 0
all_hold a b c d e f g h = grind arith

module _ {K : Type 0} (atleast : K → K → Bool) (t : Graph K) where
  pub passes : sized t ≡ true → fitted t ≡ true → ParcelsRight t (parcels t) → ((v q : ℕ) → InRow t v q → entry_fault atleast t v q ≡ 0) → Passed atleast t
  passes few fits rows right =
      let holds : (u p : ℕ) → InRow t u p → (rises t u p ≡ true) × (mirrored t u p ≡ true) × (sides_alike atleast t u p ≡ true) × (one_edition t u p ≡ true) =
      λ u p within. none_failed (rises t u p) (mirrored t u p) (sides_alike atleast t u p) (one_edition t u p) (right u p within) in
      record {
        sound = record {
          sized_right = few;
          fitted_right = fits;
          bare = rows.bare;
          parcel = rows.each;
          rising = λ u p within. (holds u p within).0;
          mirror = λ u p within. (holds u p within).1;
          edition = λ u p within. (holds u p within).3;
        };
        alike = λ u p within. (holds u p within).2;
      }

  pub refused_not_passed : {k p : ℕ} → Refused atleast t k p → Passed atleast t → ⊥
  refused_not_passed (size bad) passed = both_ways (sized t) bad passed.sound.sized_right
  refused_not_passed (table _ bad) passed = both_ways (fitted t) bad passed.sound.fitted_right
  refused_not_passed (parcel _ _ first) passed =
      ⊎_elim (λ w. both_ways _ w.1 passed.sound.bare) (λ w. both_ways _ w.2 (passed.sound.parcel _ w.0)) first
  refused_not_passed (entry _ _ _ first) passed =
      let u = first.row in
      let none = all_hold _ _ _ _ (passed.sound.rising u _ first.within) (passed.sound.mirror u _ first.within) (passed.alike u _ first.within) (passed.sound.edition u _ first.within) in
      omega (arith, first.lowest ∙ none, first.wrong)
