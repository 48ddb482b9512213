-- Lists of known length, and tables that are written from the front. Assumes nothing.
use Rattle.std.proofs.Common.{◌≡◌, ℕ, ◌+◌, ◌<◌, List, [], ◌∷◌, ◌++◌, map, length, get_or, drop, set, sym, refl, ap, ◌∙◌, arith}
use Rattle.std.proofs.lemmas.List.{append_assoc, drop_more, length-map, length_push, map_push, set_at}
use Rattle.reading.specs.Outcome.{laid}

-- a list of three numbers
pub three : (xs : List ℕ) → length xs ≡ 3 → xs ≡ get_or xs 0 0 ∷ get_or xs 1 0 ∷ get_or xs 2 0 ∷ []
three [] e = absurd (omega arith)
three (a ∷ []) e = absurd (omega arith)
three (a ∷ b ∷ []) e = absurd (omega arith)
three (a ∷ b ∷ c ∷ []) e = refl
three (a ∷ b ∷ c ∷ d ∷ xs) e = absurd (omega arith)

-- and one of four
pub four : (xs : List ℕ) → length xs ≡ 4 → xs ≡ get_or xs 0 0 ∷ get_or xs 1 0 ∷ get_or xs 2 0 ∷ get_or xs 3 0 ∷ []
four [] e = absurd (omega arith)
four (a ∷ xs) e = ap (λ l. a ∷ l) (three xs (omega arith))

pub one_longer : {X : Type 0} {n : ℕ} (xs : List X) (x : X) → length xs ≡ n → length (xs ++ x ∷ []) ≡ n + 1
one_longer xs x e = length_push xs x ∙ ap (λ k. k + 1) e

-- one value more is written into a table
pub laid_push : {X : Type 0} (vs old : List X) (x : X) (k : ℕ) → length vs ≡ k → k < length old → set (laid vs old) k x ≡ laid (vs ++ x ∷ []) old
laid_push vs old x k e h =
    let long : length vs + 1 ≡ length (vs ++ x ∷ []) = sym (length_push vs x) in
    ap (λ l. set (vs ++ l) k x) (drop_more old (length vs) x (omega arith)) ∙ set_at vs _ _ x k e ∙ ap (λ n. vs ++ x ∷ drop n old) long ∙ sym (append_assoc vs (x ∷ []) (drop (length (vs ++ x ∷ [])) old))

pub laid_more : {A X : Type 0} (f : A → X) (es : List A) (a : A) (x : X) (old table : List X) (k : ℕ) → table ≡ laid (map f es) old → length es ≡ k → k < length old → x ≡ f a → set table k x ≡ laid (map f (es ++ a ∷ [])) old
laid_more f es a x old table k e l h is =
    (λ i. set (e i) k (is i)) ∙ laid_push (map f es) old (f a) k (length-map es f ∙ l) h ∙ ap (λ vs. laid vs old) (sym (map_push f es a))
