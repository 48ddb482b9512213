use Rattle.std.proofs.Common.{◌≤◌}
use Rattle.lines_demo.proofs.main.Given as goal

abbrev pub invariant-loop-place : goal.invariant-loop-place
invariant-loop-place l = l.parted ≤ l.place
