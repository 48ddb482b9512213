use Rattle.std.proofs.Common.{◌≡◌, ℕ, List, [], ◌∷◌, ◌++◌, length, Some, None, Option, refl}
use Rattle.text.specs.Parts.{Free}
use Rattle.text.specs.Rows.{Values, OnlyValues, Begins, none, line}
use Rattle.text.proofs.OneWay.{no_line, line_here}
use Rattle.reading.proofs.rows.next_numbers.Goals as goal

pub returns-in_err-next : goal.returns-in_err-next
returns-in_err-next g c = rw c.from_residual.ensures (λ vs rest e b. no_line c.in_err-next.ensures.steps.0 b)

-- what the line writes stands at the front of what is left
one_line : (r : Option (List ℕ)) (n : ℕ) (l was is : List ℕ) → Free 10 l → was ≡ l ++ 10 ∷ is → elim r as (λ _. Type 0) [ Some vs ↦ (length vs ≡ n) × OnlyValues vs l | None ↦ ((vs : List ℕ) → length vs ≡ n → Values vs l → ⊥) ] → elim r as (λ _. Type 0) [ Some vs ↦ Begins (vs ∷ []) was is × (length vs ≡ n) | None ↦ ((vs rest : List ℕ) → length vs ≡ n → Begins (vs ∷ []) was rest → ⊥) ]
one_line None n l was is f e h = λ vs rest long b. h vs long (line_here f e b).0
one_line (Some vs) n l was is f e h = (line l is h.1.written e (none refl), h.0)

pub returns : goal.returns
returns g c = let next = c.in_ok-next.ensures.steps in one_line _ _ _ _ _ next.first next.bytes c.numbers.ensures
