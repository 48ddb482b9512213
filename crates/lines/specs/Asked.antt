-- What asking for a line answers. Assumes nothing.
use Rattle.std.specs.Prelude.{◌≡◌, ℕ, cond, Ok, Err, Result, nat_le, refl}
use Rattle.faults.specs.declared.Refusal.{Refusal}
use Rattle.faults.specs.declared.Refusal.TheVariants.{Size, Room}

-- whether a buffer of so many places does for a capacity: the limit first, then the buffer
abbrev pub ask_answer : ℕ → ℕ → Result (Unit {0}) (Refusal × ℕ)
ask_answer places capacity = cond (nat_le capacity 16384) (cond (nat_le capacity places) (Ok tt) (Err (Room, 0))) (Err (Size, 0))

-- a capacity that both refuse is refused by the limit
pub limit_comes_first : ask_answer 4 16385 ≡ Err (Size, 0)
limit_comes_first = refl

pub short_buffer : ask_answer 3 4 ≡ Err (Room, 0)
short_buffer = refl

pub long_enough : ask_answer 16384 16384 ≡ Ok tt
long_enough = refl
