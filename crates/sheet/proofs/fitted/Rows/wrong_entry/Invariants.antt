use Rattle.std.proofs.Common.{◌≡◌, ◌≤◌, None}
use Rattle.sheet.specs.Graph.{row_start, row_end}
use Rattle.sheet.specs.Check.{EntriesRight}
use Rattle.sheet.specs.View.{graph}
use Rattle.sheet.proofs.fitted.Rows.wrong_entry.Given as goal

abbrev pub invariant-loop-p : goal.invariant-loop-p
invariant-loop-p g l =
    (goal.iterator-loop-p g).can_next l.p-iterator
    × (goal.iterator-loop-p g).is_finite l.p-iterator
    × (l.found ≡ None)
    × (row_start (graph l.t) l.u ≤ l.p-iterator.start)
    × (l.p-iterator.end ≡ row_end (graph l.t) l.u)
    × EntriesRight g.K.Ranking.atleast (graph l.t) l.p-iterator.start

abbrev pub invariant-rows : goal.invariant-rows
invariant-rows g l = (l.found ≡ None) × EntriesRight g.K.Ranking.atleast (graph l.t) (row_start (graph l.t) l.u)
