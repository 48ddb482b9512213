-- What every kind of ranking keeps. Assumes nothing.
use Rattle.std.specs.Prelude.{◌≡◌, Bool, true, false, ◌&&◌, Some, None, Option}

-- of any two keys one is at least as high as the other, and being at least as high passes on
pub record Lawful {K : Type 0} (atleast : K → K → Bool) : Type 0 where
  pub total : (a b : K) → atleast a b ≡ false → atleast b a ≡ true
  pub trans : (a b c : K) → atleast a b ≡ true → atleast b c ≡ true → atleast a c ≡ true

-- two keys rank alike: each is at least as high as the other
abbrev pub alike : {K : Type 0} → (K → K → Bool) → K → K → Bool
alike atleast a b = atleast a b && atleast b a

-- the same question of keys that may be missing: a missing one is lowest
abbrev pub lifted : {K : Type 0} → (K → K → Bool) → Option K → Option K → Bool
lifted atleast None None = true
lifted atleast None (Some b) = false
lifted atleast (Some a) None = true
lifted atleast (Some a) (Some b) = atleast a b
