-- Texts of rows of numbers: a line for each row, its numbers parted by commas. Assumes nothing.
use Rattle.std.specs.Prelude.{◌≡◌, ℕ, List, [], ◌∷◌, ◌++◌}
use Rattle.text.specs.Numbers.{Numeral}

-- bs writes the values, at least one, each by a number, with a comma (byte 44) between two
pub data Values : List ℕ → List ℕ → Type 0 where
  one : {v : ℕ} {bs : List ℕ} → Numeral bs v → Values (v ∷ []) bs
  more : {v : ℕ} {vs bs : List ℕ} (field after : List ℕ) → Numeral field v → bs ≡ field ++ 44 ∷ after → Values vs after → Values (v ∷ vs) bs

-- bs writes these values, and no others
pub record OnlyValues (vs bs : List ℕ) : Type 0 where
  pub written : Values vs bs
  pub only : (ws : List ℕ) → Values ws bs → ws ≡ vs

-- bs begins with a line for each of the rows, each ended by byte 10, and rest follows
pub data Begins : List (List ℕ) → List ℕ → List ℕ → Type 0 where
  none : {bs rest : List ℕ} → bs ≡ rest → Begins [] bs rest
  line : {vs : List ℕ} {rows : List (List ℕ)} {bs rest : List ℕ} (l after : List ℕ) → Values vs l → bs ≡ l ++ 10 ∷ after → Begins rows after rest → Begins (vs ∷ rows) bs rest
