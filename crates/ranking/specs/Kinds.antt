-- The two kinds of key, and the laws that they keep. Assumes nothing.
use Rattle.std.specs.Prelude.{ℕ, Bool, ◌&&◌, ◌||◌, ◌==◌, nat_le, nat_lt}
use Rattle.ranking.specs.declared.Cents.{Cents}
use Rattle.ranking.specs.declared.Staged.{Staged}

-- more cents are higher
abbrev pub cents_atleast : Cents → Cents → Bool
cents_atleast a b = nat_le b.0 a.0

-- the smaller band is higher, and within a band more cents
abbrev pub staged_atleast : Staged → Staged → Bool
staged_atleast a b = nat_lt a.band b.band || (a.band == b.band && nat_le b.cents a.cents)

-- a key of one field, whatever stands for the second
abbrev pub cents_key : ℕ → ℕ → Cents
cents_key cents _ = record { 0 = cents }

abbrev pub staged_key : ℕ → ℕ → Staged
staged_key band cents = record { band = band; cents = cents }
