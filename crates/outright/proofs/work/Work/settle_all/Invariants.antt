use Rattle.std.proofs.Common.{◌≡◌}
use Rattle.sheet.specs.Held.{held}
use Rattle.outright.proofs.Running.{Below}
use Rattle.outright.proofs.work.Work.settle_all.Given as goal

abbrev pub invariant-loop-v : goal.invariant-loop-v
invariant-loop-v g l = (l.self.records.ghost_name ≡ l.initial.self.records.ghost_name) × Below g.K.Ranking.atleast (held l.sheet) l.v l.self.records.now l.self.worklist.now l.self.listed
