use Rattle.std.proofs.Common.{◌∙◌}
use Rattle.sheet.specs.Held.{held}
use Rattle.outright.proofs.Running.{through_more, through_all}
use Rattle.outright.proofs.work.Work.renew_all.Goals as goal

pub loop-next-preserved : goal.loop-next-preserved
loop-next-preserved g c =
    let after = c.renew_at in (
      after.ensures.same_reference ∙ c.loop-next.invariant.0,
      through_more g.K.Ranking.atleast (held c.args.sheet.now) c.loop-next.next c.loop-next.self.records.now c.loop-next.self.worklist.now c.loop-next.self.listed after.new.self.records.now after.new.self.worklist.now after.new.self.listed
          c.loop-next.invariant.1 c.loop-next-test.true after.ensures.ready after.ensures.onward after.ensures.none_waits,
    )

pub returns-clause-renewed : goal.returns-clause-renewed
returns-clause-renewed g c =
    through_all g.K.Ranking.atleast (held c.args.sheet.now) c.loop-next.next c.loop-next.self.records.now c.loop-next.self.worklist.now c.loop-next.self.listed c.loop-next.invariant.1 c.loop-next-test.false
