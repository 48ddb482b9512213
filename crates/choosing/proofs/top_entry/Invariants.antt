use Rattle.std.proofs.Common.{◌≡◌, ◌≤◌}
use Rattle.sheet.specs.Graph.{row}
use Rattle.sheet.specs.Held.{held}
use Rattle.choosing.proofs.Tops.{Sofar}
use Rattle.choosing.proofs.top_entry.Given as goal

abbrev pub invariant-loop-p : goal.invariant-loop-p
invariant-loop-p g l =
    (goal.iterator-loop-p g).can_next l.p-iterator
    × (goal.iterator-loop-p g).is_finite l.p-iterator
    × ((row (held l.sheet) l.parcel).start ≤ l.p-iterator.start)
    × (l.p-iterator.end ≡ (row (held l.sheet) l.parcel).end)
    × Sofar g.K.Ranking.atleast (held l.sheet) (g.C.Candidates.stands l.candidates) l.parcel l.p-iterator.start l.top
