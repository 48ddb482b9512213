use Rattle.std.proofs.Common.{◌<◌, refl, sym, ◌∙◌, subst}
use Rattle.sheet.specs.Graph.{parcels}
use Rattle.sheet.specs.View.{graph}
use Rattle.sheet.specs.Held.{held}
use Rattle.sheet.proofs.Held.{held_sound}
use Rattle.outright.proofs.Running.{Below, below_none, below_more}
use Rattle.outright.proofs.work.Work.settle_all.Goals as goal

pub loop-v-init : goal.loop-v-init
loop-v-init g c =
    let t = held c.args.sheet.now in
    let w = c.args.self.now in
    (refl, subst (Below g.K.Ranking.atleast t 0 w.records.now w.worklist.now) (sym c.requires.none_listed) (below_none g.K.Ranking.atleast t w.records.now w.worklist.now c.requires.idle c.requires.long c.requires.room))

pub loop-v-preserved : goal.loop-v-preserved
loop-v-preserved g c =
    let sheet = c.args.sheet.now in
    let less : c.loop-v.v < parcels (held sheet) = subst (λ x. c.loop-v.v < parcels (graph x)) c.tables.ensures c.loop-v-test.true in
    let settled = c.settle in (
      settled.ensures.same_reference ∙ c.loop-v.invariant.0,
      below_more g.K.Ranking.atleast g.met.K.Ranking.lawful (held sheet) (held_sound sheet) c.loop-v.v c.loop-v.self.records.now c.loop-v.self.worklist.now c.loop-v.self.listed
          settled.new.self.records.now settled.new.self.worklist.now settled.new.self.listed c.loop-v.invariant.1 less settled.ensures.settles,
    )
