use Rattle.std.proofs.Common.{◌≡◌, ◌-◌, length}
use Rattle.sheet.specs.Held.{held}
use Rattle.outright.proofs.Running.{Through}
use Rattle.outright.proofs.work.Work.renew_all.Given as goal

abbrev pub invariant-loop-next : goal.invariant-loop-next
invariant-loop-next g l = (l.self.records.ghost_name ≡ l.initial.self.records.ghost_name) × Through g.K.Ranking.atleast (held l.sheet) l.next l.self.records.now l.self.worklist.now l.self.listed

abbrev pub decreases-loop-next : goal.decreases-loop-next
decreases-loop-next g l = length l.initial.self.worklist.now - l.next
