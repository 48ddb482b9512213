-- Sums and counts over parcels and over places. Assumes nothing.
use Rattle.std.proofs.Common.{◌≡◌, ℕ, zero, suc, ◌+◌, ◌<◌, ◌≤◌, Bool, true, false, cond, List, [], ◌∷◌, length, sum_by, count_by, sym, refl, ap, ◌∙◌, inl, inr, ⊎_elim, arith}
use Rattle.std.specs.List.{range_with_len}
use Rattle.std.proofs.lemmas.List.Sums.{sum_by-cons}
use Rattle.std.proofs.lemmas.Bool.{cases_eq}
use Rattle.matching.specs.Pairs.{◌∈◌}
use Rattle.matching.proofs.Members.{count_cons}
use Rattle.protocol.specs.Marks.{places_from}

-- equal numbers have equal sums
pub sum_same : (f g : ℕ → ℕ) (n a : ℕ) → ((x : ℕ) → a ≤ x → x < a + n → f x ≡ g x) → sum_by f (range_with_len a n) ≡ sum_by g (range_with_len a n)
sum_same f g zero a same = refl
sum_same f g (suc n) a same =
    let rest = sum_same f g n (a + 1) (λ x low high. same x (omega arith) (omega arith)) in
    let here = same a (omega arith) (omega arith) in
    omega (arith, sum_by-cons f a (range_with_len (a + 1) n), sum_by-cons g a (range_with_len (a + 1) n), rest, here)

-- sums of numbers that differ at u alone
pub sum_but : (f g : ℕ → ℕ) (u n a : ℕ) → a ≤ u → u < a + n → ((x : ℕ) → a ≤ x → x < a + n → (x ≡ u → ⊥) → f x ≡ g x) → sum_by g (range_with_len a n) + f u ≡ sum_by f (range_with_len a n) + g u
sum_but f g u zero a low high same = absurd (omega arith)
sum_but f g u (suc n) a low high same =
    let sf = sum_by-cons f a (range_with_len (a + 1) n) in
    let sg = sum_by-cons g a (range_with_len (a + 1) n) in
    ⊎_elim
    (λ (e : u ≡ a).
    let rest = sum_same f g n (a + 1) (λ x l h. same x (omega arith) (omega arith) (λ b. omega arith)) in
    let fu = ap f e in
    let gu = ap g e in
    omega (arith, sf, sg, rest, fu, gu))
    (λ n'. let rest = sum_but f g u n (a + 1) (omega arith) (omega arith) (λ x l h. same x (omega arith) (omega arith)) in
    let here = same a (omega arith) (omega arith) (λ b. n' (sym b)) in
    omega (arith, sf, sg, rest, here))
    (cases_eq u a)

pub sum_le : (f g : ℕ → ℕ) (n a : ℕ) → ((x : ℕ) → a ≤ x → x < a + n → f x ≤ g x) → sum_by f (range_with_len a n) ≤ sum_by g (range_with_len a n)
sum_le f g zero a less = omega arith
sum_le f g (suc n) a less =
    let rest = sum_le f g n (a + 1) (λ x low high. less x (omega arith) (omega arith)) in
    let here = less a (omega arith) (omega arith) in
    omega (arith, sum_by-cons f a (range_with_len (a + 1) n), sum_by-cons g a (range_with_len (a + 1) n), rest, here)

-- the same tests count the same
pub count_same : {A : Type 0} (f g : A → Bool) (xs : List A) → ((x : A) → x ∈ xs → f x ≡ g x) → count_by f xs ≡ count_by g xs
count_same f g [] same = refl
count_same f g (x ∷ xs) same =
    let rest = count_same f g xs (λ y m. same y (inr m)) in
    let here : cond {A = ℕ} (f x) 1 0 ≡ cond (g x) 1 0 = ap (λ b. cond {A = ℕ} b 1 0) (same x (inl refl)) in
    omega (arith, count_cons f x xs, count_cons g x xs, rest, here)

one_of : (a b c : Bool) → (a ≡ true → c ≡ true) → (b ≡ true → c ≡ true) → (a ≡ true → b ≡ true → ⊥) → cond {A = ℕ} a 1 0 + cond b 1 0 ≤ cond c 1 0
one_of true true c p q r = absurd (r refl refl)
one_of true false c p q r = let e : cond {A = ℕ} c 1 0 ≡ 1 = rw (p refl) in omega arith
one_of false true c p q r = let e : cond {A = ℕ} c 1 0 ≡ 1 = rw (q refl) in omega arith
one_of false false c p q r = omega arith

-- two tests that exclude each other count no more than one that both pass
pub count_two : {A : Type 0} (f g h : A → Bool) (xs : List A) → ((x : A) → x ∈ xs → (f x ≡ true → h x ≡ true) × (g x ≡ true → h x ≡ true) × (f x ≡ true → g x ≡ true → ⊥)) → count_by f xs + count_by g xs ≤ count_by h xs
count_two f g h [] each = omega arith
count_two f g h (x ∷ xs) each =
    let rest = count_two f g h xs (λ y m. each y (inr m)) in
    let k = each x (inl refl) in
    omega (arith, count_cons f x xs, count_cons g x xs, count_cons h x xs, rest, one_of (f x) (g x) (h x) k.0 k.1 k.2)

one_in : (a b : Bool) → (a ≡ true → b ≡ true) → cond {A = ℕ} a 1 0 ≤ cond b 1 0
one_in true b p = let e : cond {A = ℕ} b 1 0 ≡ 1 = rw (p refl) in omega arith
one_in false b p = omega arith

-- a test that holds of what another holds of counts no less
pub count_in : {A : Type 0} (f h : A → Bool) (xs : List A) → ((x : A) → x ∈ xs → f x ≡ true → h x ≡ true) → count_by f xs ≤ count_by h xs
count_in f h [] each = omega arith
count_in f h (x ∷ xs) each = omega (arith, count_cons f x xs, count_cons h x xs, count_in f h xs (λ y m. each y (inr m)), one_in (f x) (h x) (each x (inl refl)))

-- and more, where there is one that the other does not hold of
pub count_more : {A : Type 0} (f h : A → Bool) (xs : List A) (q : A) → ((x : A) → x ∈ xs → f x ≡ true → h x ≡ true) → q ∈ xs → f q ≡ false → h q ≡ true → count_by f xs + 1 ≤ count_by h xs
count_more f h [] q each m z o = absurd m
count_more f h (x ∷ xs) q each (inl e) z o =
    let less = count_in f h xs (λ y m. each y (inr m)) in
    let none : cond {A = ℕ} (f x) 1 0 ≡ 0 = rw (ap f (sym e) ∙ z) in
    let one : cond {A = ℕ} (h x) 1 0 ≡ 1 = rw (ap h (sym e) ∙ o) in
    omega (arith, count_cons f x xs, count_cons h x xs, less, none, one)
count_more f h (x ∷ xs) q each (inr m) z o =
    omega (arith, count_cons f x xs, count_cons h x xs, count_more f h xs q (λ y i. each y (inr i)) m z o, one_in (f x) (h x) (each x (inl refl)))

pub length_places_from : (k p : ℕ) → length (places_from k p) ≡ k
length_places_from zero p = refl
length_places_from (suc k) p = ap suc (length_places_from k (suc p))
