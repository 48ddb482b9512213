use Rattle.std.proofs.Common.{◌≡◌, ◌≤◌}
use Rattle.sheet.specs.Graph.{row_start, row_end}
use Rattle.sheet.specs.Held.{held}
use Rattle.round.proofs.Going.{Going}
use Rattle.round.proofs.choose.let_go.Given as goal

abbrev pub invariant-loop-q : goal.invariant-loop-q
invariant-loop-q g l =
    Going (held l.sheet) l.u l.keep l.initial.marks (g.L.Line.waiting l.initial.line) l.q-iterator.start l.marks (g.L.Line.waiting l.line)
    × (g.L.Line.capacity l.line ≡ g.L.Line.capacity l.initial.line)
    × (row_start (held l.sheet) l.u ≤ l.q-iterator.start)
    × (l.q-iterator.start ≤ l.q-iterator.end)
    × (l.q-iterator.end ≡ row_end (held l.sheet) l.u)
