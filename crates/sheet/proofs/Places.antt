-- The first place at which a number stands. Assumes nothing.
use Rattle.std.specs.List.{slice_range, position, position_or_len}
use Rattle.std.proofs.Common.{option_map, length-drop, zero, Bool, true, false, not, ltb, Some, None, ◌∷◌, drop-cons, length, take, drop, ◌==◌, ◌≤◌, ◌≡◌, ℕ, suc, ◌+◌, ◌-◌, cond, eqb, List, get_or, arith}
use Rattle.std.proofs.lemmas.Bool.Decides.{nat_tests}
use Rattle.std.proofs.lemmas.List.{length-take-le}
use Rattle.sheet.specs.Graph.{first_place, place_between}

-- a count of the elements that pass is one more where the first of them does
counted : (b : Bool) (p r n : ℕ) → r ≡ suc p + n → cond b p r ≡ p + cond (not b) (1 + n) 0
counted true p r n e = omega arith
counted false p r n e = omega (arith, e)

-- a place counted from p on is before q where it is within the elements up to q
shifted : (i n p q : ℕ) → n ≡ q - p → p ≤ q → option_map (λ j. p + j) (cond (ltb i n) (Some i) None) ≡ cond (ltb (p + i) q) (Some (p + i)) None
shifted i n p q long less = grind (arith, nat_tests)

module _ (xs : List ℕ) (v : ℕ) where
  -- the library's search of k elements from place p on counts up to that place
  position_on : (k p : ℕ) → p + k ≤ length xs → first_place xs k p v ≡ p + position_or_len (λ x. x == v) (take k (drop p xs))
  position_on zero p fits = omega arith
  position_on (suc k) p fits =
      let here : drop p xs ≡ get_or xs p 0 ∷ drop (suc p) xs = drop-cons xs p 0 (omega arith) in
      let on = position_on k (suc p) (omega arith) in
      rw here (counted (eqb (get_or xs p 0) v) p _ _ on)

  -- the library's search of the elements from p up to q finds that place
  pub place_position : (p q : ℕ) → p ≤ q → q ≤ length xs → option_map (λ i. p + i) (position (λ x. x == v) (slice_range xs p q)) ≡ place_between xs p q v
  place_position p q less fits =
      let long : length (slice_range xs p q) ≡ q - p = length-take-le (q - p) (drop p xs) (omega (arith, length-drop p xs)) in
      rw (position_on (q - p) p (omega arith)) (shifted _ _ p q long less)

  -- what is nowhere in the list is at no place
  none_on : ((i : ℕ) → eqb (get_or xs i 0) v ≡ false) → (k p : ℕ) → first_place xs k p v ≡ p + k
  none_on nowhere zero p = omega arith
  none_on nowhere (suc k) p = rw (nowhere p) (omega (arith, none_on nowhere k (suc p)))

  pub place_none : ((i : ℕ) → eqb (get_or xs i 0) v ≡ false) → (p q : ℕ) → p ≤ q → place_between xs p q v ≡ None
  place_none nowhere p q less = let end : first_place xs (q - p) p v ≡ q = omega (arith, none_on nowhere (q - p) p) in rw end (grind (arith, nat_tests))
