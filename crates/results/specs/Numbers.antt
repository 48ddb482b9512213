-- What is printed of a number. Assumes nothing.
use Rattle.std.specs.Prelude.{◌≡◌, ℕ, ◌^◌, ◌<◌, [], ◌∷◌, decimal, slice_index}
use Rattle.std.specs.Str.Parse.{IsNumeral, digits_value}

-- a number that 32 bits hold is printed as decimal digits that read back as it, with no zero in front, and 0 as one zero
abbrev pub ReadsBack : Type 0
ReadsBack = ((n : ℕ) → n < 2 ^ 32 → IsNumeral 10 (decimal n) × (digits_value 10 (decimal n) ≡ n) × (0 < n → 48 < slice_index (decimal n) 0)) × (decimal 0 ≡ 48 ∷ [])
