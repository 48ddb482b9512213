use Rattle.std.proofs.Common.{refl, arith}
use Rattle.round.specs.Parts.{has_started, out_of_range}
use Rattle.round.proofs.starting.try_idle.Goals as goal

pub returns-in-Ok-Waits : goal.returns-in-Ok-Waits
returns-in-Ok-Waits c = (has_started (grind arith) (grind arith), refl)

pub returns-in-Err : goal.returns-in-Err
returns-in-Err c = (out_of_range c.in-Err.ensures.1, refl)
