-- What digits write, one digit more. Assumes nothing.
use Rattle.std.proofs.Common.{◌≡◌, ℕ, ◌+◌, ◌-◌, ◌*◌, ◌<◌, ◌≤◌, List, [], ◌∷◌, ◌++◌, length, get_or, take, drop, fold, sym, refl, subst, arith, take-append-drop}
use Rattle.std.proofs.lemmas.List.Sums.{fold_more}
use Rattle.text.specs.Numbers.{value}

-- the number that digits write after those of n
abbrev after : ℕ → List ℕ → ℕ
after n bs = fold (λ m b. 10 * m + (b - 48)) n bs

after_grows : (n : ℕ) (bs : List ℕ) → n ≤ after n bs
after_grows n [] = omega arith
after_grows n (b ∷ bs) = let rest = after_grows (10 * n + (b - 48)) bs in omega arith

after_append : (n : ℕ) (bs ds : List ℕ) → after n (bs ++ ds) ≡ after (after n bs) ds
after_append n [] ds = refl
after_append n (b ∷ bs) ds = after_append (10 * n + (b - 48)) bs ds

-- more digits write no less
pub value_grows : (bs : List ℕ) (i : ℕ) → value (take i bs) ≤ value bs
value_grows bs i =
    subst (λ l. value (take i bs) ≤ value l) (take-append-drop i bs)
    (subst (λ n. value (take i bs) ≤ n) (sym (after_append 0 (take i bs) (drop i bs))) (after_grows (value (take i bs)) (drop i bs)))

pub value_more : (bs : List ℕ) (i : ℕ) → i < length bs → value (take (i + 1) bs) ≡ 10 * value (take i bs) + (get_or bs i 0 - 48)
value_more bs i h = fold_more (λ m b. 10 * m + (b - 48)) 0 bs i 0 h
