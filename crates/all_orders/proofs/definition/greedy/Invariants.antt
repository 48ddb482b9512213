use Rattle.std.proofs.Common.{vec_len}
use Rattle.all_orders.proofs.definition.greedy.Given as goal

abbrev pub decreases-loop-top : goal.decreases-loop-top
decreases-loop-top l = vec_len l.left
