use Rattle.std.proofs.Common.{◌≡◌, ◌+◌}
use Rattle.sheet.specs.Graph.{row_start}
use Rattle.sheet.specs.Held.{held}
use Rattle.outright.proofs.Running.{Along}
use Rattle.outright.proofs.work.Work.renew_at.Given as goal

abbrev pub invariant-loop-v : goal.invariant-loop-v
invariant-loop-v g l =
    let t = held l.sheet in
    let old = l.initial.self in
    (l.self.records.ghost_name ≡ old.records.ghost_name)
    × Along g.K.Ranking.atleast t l.u old.records.now old.worklist.now old.listed (row_start t l.u + l.v-index) l.self.records.now l.self.worklist.now l.self.listed
