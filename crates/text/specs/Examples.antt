-- Numbers and a line, worked out. Assumes nothing.
use Rattle.std.specs.Prelude.{ℕ, List, [], ◌∷◌, ◌++◌, codes}
use Rattle.text.specs.Numbers.{Numeral}
use Rattle.text.specs.Rows.{Values, Begins}

-- the bytes are no number, of whatever value
abbrev NoNumber : List ℕ → Type 0
NoNumber bs = (v : ℕ) → Numeral bs v → ⊥

-- the smallest and the largest number, one too large, a zero in front, no digit, a sign; and a line with what follows
pub record Examples : Type 0 where
  pub smallest : Numeral (codes "0") 0
  pub largest : Numeral (codes "4294967295") 4294967295
  pub too_large : NoNumber (codes "4294967296")
  pub padded : NoNumber (codes "07")
  pub empty : NoNumber []
  pub signed : NoNumber (codes "+7")
  pub row : Values (4 ∷ 6 ∷ 2 ∷ []) (codes "4,6,2")
  pub text : Begins ((4 ∷ 10 ∷ []) ∷ []) (codes "4,10" ++ 10 ∷ codes "5") (codes "5")
