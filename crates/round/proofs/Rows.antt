-- The ends of a row, and one place more of it, as a loop goes through it. Assumes nothing.
use Rattle.std.proofs.Common.{◌≡◌, ℕ, zero, suc, ◌+◌, ◌-◌, ◌<◌, ◌≤◌, Bool, true, false, cond, List, [], ◌∷◌, ◌++◌, length, filter, sym, refl, ap, ◌∙◌, subst, arith}
use Rattle.std.specs.List.{range_with_len}
use Rattle.std.specs.List.Sorted.{IsPermutation}
use Rattle.std.proofs.lemmas.Bool.{lt-ltb}
use Rattle.std.proofs.lemmas.List.Elements.{filter-append}
use Rattle.std.proofs.lemmas.List.{length-append, append-nil}
use Rattle.std.proofs.lemmas.List.Sorted.{IsPermutation-refl, IsPermutation-cons, IsPermutation-swap, IsPermutation-trans}
use Rattle.sheet.specs.Graph.{Graph, parcels, row, row_start, row_end}
use Rattle.protocol.specs.Marks.{places_from}

-- the row of a parcel lies between its two ends
pub row_ends : {K : Type 0} (t : Graph K) (u : ℕ) → u < parcels t → ((row t u).start ≡ row_start t u) × ((row t u).end ≡ row_end t u)
row_ends t u below = rw (lt-ltb u (parcels t) below) (refl, refl)

-- the places from p on, one more
pub places_more : (k p : ℕ) → places_from (k + 1) p ≡ places_from k p ++ (p + k) ∷ []
places_more zero p = ap (λ x. x ∷ []) (let e : p ≡ p + 0 = omega arith in e)
places_more (suc k) p =
    let rest = places_more k (suc p) in
    let e : suc k + 1 ≡ suc (k + 1) = omega arith in
    let f : suc p + k ≡ p + suc k = omega arith in
    ap (λ n. places_from n p) e ∙ ap (λ l. p ∷ l) (rest ∙ ap (λ x. places_from k (suc p) ++ x ∷ []) f)

-- the same at a place q of a row that begins at start
pub places_to : (start q : ℕ) → start ≤ q → places_from (q + 1 - start) start ≡ places_from (q - start) start ++ q ∷ []
places_to start q low =
    let e : q + 1 - start ≡ q - start + 1 = omega arith in
    let f : start + (q - start) ≡ q = omega arith in
    ap (λ n. places_from n start) e ∙ places_more (q - start) start ∙ ap (λ x. places_from (q - start) start ++ x ∷ []) f

-- the places are the numbers of a range
pub places_are : (k p : ℕ) → places_from k p ≡ range_with_len p k
places_are zero p = refl
places_are (suc k) p = ap (λ l. p ∷ l) (places_are k (suc p) ∙ ap (λ q. range_with_len q k) (let e : suc p ≡ p + 1 = omega arith in e))

module _ (test : ℕ → Bool) where
  -- those that pass, with one place more
  pub kept_yes : (start q : ℕ) → start ≤ q → test q ≡ true → filter test (places_from (q + 1 - start) start) ≡ filter test (places_from (q - start) start) ++ q ∷ []
  kept_yes start q low is = ap (filter test) (places_to start q low) ∙ filter-append test (places_from (q - start) start) (q ∷ []) ∙ ap (λ b. filter test (places_from (q - start) start) ++ cond b (q ∷ []) []) is

  pub kept_not : (start q : ℕ) → start ≤ q → test q ≡ false → filter test (places_from (q + 1 - start) start) ≡ filter test (places_from (q - start) start)
  kept_not start q low is = ap (filter test) (places_to start q low) ∙ filter-append test (places_from (q - start) start) (q ∷ []) ∙ ap (λ b. filter test (places_from (q - start) start) ++ cond b (q ∷ []) []) is ∙ append-nil (filter test (places_from (q - start) start))

  -- fewer places, no more of them
  pub kept_fewer : (j k p : ℕ) → length (filter test (places_from j p)) ≤ length (filter test (places_from (j + k) p))
  kept_fewer j zero p = let e : j + 0 ≡ j = omega arith in subst (λ n. length (filter test (places_from j p)) ≤ length (filter test (places_from n p))) (sym e) (omega arith)
  kept_fewer j (suc k) p =
      let rest = kept_fewer j k p in
      let e : places_from (j + suc k) p ≡ places_from (j + k) p ++ (p + (j + k)) ∷ [] = (let f : j + suc k ≡ j + k + 1 = omega arith in ap (λ n. places_from n p) f ∙ places_more (j + k) p) in
      let g = ap length (ap (filter test) e ∙ filter-append test (places_from (j + k) p) ((p + (j + k)) ∷ [])) ∙ length-append (filter test (places_from (j + k) p)) (filter test ((p + (j + k)) ∷ [])) in
      omega (arith, rest, g)

-- a note in the middle comes to the front
pub shuffled_middle : {A : Type 0} (xs : List A) (y : A) (zs : List A) → IsPermutation (y ∷ (xs ++ zs)) (xs ++ y ∷ zs)
shuffled_middle [] y zs = IsPermutation-refl (y ∷ zs)
shuffled_middle (x ∷ xs) y zs =
    IsPermutation-trans (y ∷ x ∷ (xs ++ zs)) (x ∷ y ∷ (xs ++ zs)) (x ∷ (xs ++ y ∷ zs)) (IsPermutation-swap (y ∷ x ∷ (xs ++ zs)) (x ∷ y ∷ (xs ++ zs)) 0 1 (omega arith) (omega arith) refl) (IsPermutation-cons x (y ∷ (xs ++ zs)) (xs ++ y ∷ zs) (shuffled_middle xs y zs))

-- the same in front of shuffled lists
pub shuffled_behind : {A : Type 0} (xs ys zs : List A) → IsPermutation ys zs → IsPermutation (xs ++ ys) (xs ++ zs)
shuffled_behind [] ys zs s = s
shuffled_behind (x ∷ xs) ys zs s = IsPermutation-cons x (xs ++ ys) (xs ++ zs) (shuffled_behind xs ys zs s)
