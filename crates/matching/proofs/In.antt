-- Members of lists that are put together. Assumes nothing.
use Rattle.std.proofs.Common.{◌≡◌, zero, suc, ◌⊎◌, List, [], ◌∷◌, ◌++◌, map, sym, refl, ap, inl, inr, ⊎_elim, arith}
use Rattle.std.specs.List.{ContainsAt}
use Rattle.std.specs.List.Sorted.{IsPermutation}
use Rattle.std.proofs.lemmas.List.Sorted.{IsPermutation-sym}
use Rattle.std.proofs.ByRecursion.{has_shuffled}
use Rattle.matching.specs.Pairs.{◌∈◌}

module _ {A : Type 0} where
  pub in_front : (xs ys : List A) (x : A) → x ∈ xs → x ∈ (xs ++ ys)
  in_front [] ys x m = absurd m
  in_front (y ∷ xs) ys x (inl e) = inl e
  in_front (y ∷ xs) ys x (inr m) = inr (in_front xs ys x m)

  pub in_back : (xs ys : List A) (x : A) → x ∈ ys → x ∈ (xs ++ ys)
  in_back [] ys x m = m
  in_back (y ∷ xs) ys x m = inr (in_back xs ys x m)

  pub in_either : (xs ys : List A) (x : A) → x ∈ (xs ++ ys) → (x ∈ xs) ⊎ (x ∈ ys)
  in_either [] ys x m = inr m
  in_either (y ∷ xs) ys x (inl e) = inl (inl e)
  in_either (y ∷ xs) ys x (inr m) = ⊎_elim (λ k. inl (inr k)) inr (in_either xs ys x m)

  -- a member stands at some place
  in_has : (xs : List A) (x : A) → x ∈ xs → ContainsAt xs x
  in_has [] x m = absurd m
  in_has (y ∷ xs) x (inl e) = (0, omega arith, λ d. sym e)
  in_has (y ∷ xs) x (inr m) = let h = in_has xs x m in (suc h.0, omega (arith, h.1), h.2)

  pub has_member : (xs : List A) (x : A) → ContainsAt xs x → x ∈ xs
  has_member [] x h = absurd (omega (arith, h.1))
  has_member (y ∷ xs) x (zero, less, at) = inl (sym (at x))
  has_member (y ∷ xs) x (suc k, less, at) = inr (has_member xs x (k, omega (arith, less), at))

  -- a shuffled list has the same members
  pub in_shuffled : (xs ys : List A) (x : A) → IsPermutation xs ys → x ∈ xs → x ∈ ys
  in_shuffled xs ys x s m = has_member ys x (has_shuffled xs ys x s (in_has xs x m))

  pub in_unshuffled : (xs ys : List A) (x : A) → IsPermutation xs ys → x ∈ ys → x ∈ xs
  in_unshuffled xs ys x s m = in_shuffled ys xs x (IsPermutation-sym xs ys s) m

-- members of a mapped list
pub in_map : {A B : Type 0} (f : A → B) (xs : List A) (x : A) → x ∈ xs → f x ∈ map f xs
in_map f [] x m = absurd m
in_map f (y ∷ xs) x (inl e) = inl (ap f e)
in_map f (y ∷ xs) x (inr m) = inr (in_map f xs x m)

pub map_in : {A B : Type 0} (f : A → B) (xs : List A) (y : B) → y ∈ map f xs → (x : A) × (x ∈ xs) × (y ≡ f x)
map_in f [] y m = absurd m
map_in f (x ∷ xs) y (inl e) = (x, inl refl, e)
map_in f (x ∷ xs) y (inr m) = let r = map_in f xs y m in (r.0, inr r.1, r.2)
