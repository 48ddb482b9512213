-- How a number stands in a text: its form, and apart from that its value. Assumes nothing.
use Rattle.std.specs.Prelude.{◌≡◌, ℕ, ◌+◌, ◌-◌, ◌*◌, ◌<◌, ◌≤◌, List, length, fold, slice_index_or}
use Rattle.std.specs.List.{AllByRecursion}

-- the byte of a decimal digit
abbrev pub Digit : ℕ → Type 0
Digit b = (48 ≤ b) × (b ≤ 57)

-- the form of a number: digits, at least one, with no zero in front but of 0 itself
pub record Form (bs : List ℕ) : Type 0 where
  pub digits : AllByRecursion Digit bs
  pub some : 0 < length bs
  pub plain : slice_index_or bs 0 0 ≡ 48 → length bs ≡ 1

-- the number that digits write, each ten times the one after it
abbrev pub value : List ℕ → ℕ
value bs = fold (λ n b. 10 * n + (b - 48)) 0 bs

-- bs is a number with the value v, which 32 bits hold
pub record Numeral (bs : List ℕ) (v : ℕ) : Type 0 where
  pub form : Form bs
  pub is : v ≡ value bs
  pub small : v ≤ 4294967295
