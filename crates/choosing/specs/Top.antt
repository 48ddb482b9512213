-- The top entry among the candidates of a row. Assumes nothing.
use Rattle.std.specs.Prelude.{◌≡◌, ℕ, Bool, true, false, Some, None, Option, ◌≢◌}
use Rattle.sheet.specs.Graph.{Graph, InRow}
use Rattle.pairing.specs.Above.{entry_above}

-- the entry at place p of row u is a candidate, and stands above every other candidate of the row
pub record Top {K : Type 0} (atleast : K → K → Bool) (t : Graph K) (stands : ℕ → Bool) (u p : ℕ) : Type 0 where
  pub within : InRow t u p
  pub candidate : stands p ≡ true
  pub over : (q : ℕ) → InRow t u q → stands q ≡ true → (q ≢ p) → entry_above atleast t p q ≡ true

-- what a choice in row u comes to: none where the row has no candidate, else the top one
abbrev pub Choice : {K : Type 0} → (K → K → Bool) → Graph K → (ℕ → Bool) → ℕ → Option ℕ → Type 0
Choice atleast t stands u None = (q : ℕ) → InRow t u q → stands q ≡ false
Choice atleast t stands u (Some p) = Top atleast t stands u p
