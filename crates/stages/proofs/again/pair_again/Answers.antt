use Rattle.std.proofs.Common.{◌∙◌, inl, inr, arith}
use Rattle.std.proofs.lemmas.Result.{err_from_is_err_and}
use Rattle.ranking.specs.Kinds.{cents_atleast}
use Rattle.sheet.specs.Held.{held}
use Rattle.stages.proofs.Pairings.{done_from, refused_from, not_refused}
use Rattle.stages.proofs.again.pair_again.Goals as goal

pub loop-preserved : goal.loop-preserved
loop-preserved c =
    let t = held c.args.sheet.now in
    inr (omega arith, done_from cents_atleast t c.loop.auto.records c.loop.auto.worklist c.in_ok-pair_outright.ensures)

pub returns-in_err-pair_outright : goal.returns-in_err-pair_outright
returns-in_err-pair_outright c =
    let t = held c.args.sheet.now in
    let p = err_from_is_err_and c.from_residual.result c.from_residual.ensures.1 in
    let why = c.in_err-pair_outright.ensures in
    let refused = refused_from cents_atleast t c.loop.auto.records c.loop.auto.worklist why.0 in
    rw (p.1, p.2)
    (elim c.loop.invariant [
      | inl first ↦ (omega (arith, c.loop-test.true), refused, why.1 ∙ first.1, why.2 ∙ first.2)
      | inr later ↦ absurd (not_refused cents_atleast t later.1 refused)
    ])
