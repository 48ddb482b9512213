use Rattle.std.proofs.Common.{◌-◌, length}
use Rattle.pairs.proofs.fill.Given as goal

abbrev pub decreases-loop-filled : goal.decreases-loop-filled
decreases-loop-filled g l = length l.initial.buffer - l.filled
