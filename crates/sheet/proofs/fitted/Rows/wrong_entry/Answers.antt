use Rattle.std.proofs.Common.{◌≡◌, ◌<◌, ◌+◌, sym, ◌∙◌, subst, arith, rules}
use Rattle.sheet.specs.Graph.{InRow, parcels, row_start}
use Rattle.sheet.specs.Check.{entry_fault, EntriesRight, WrongEntry}
use Rattle.sheet.specs.View.{graph}
use Rattle.sheet.proofs.Rows.{before_more, before_all}
use Rattle.sheet.proofs.fitted.Rows.wrong_entry.Goals as goal

pub loop-p-preserved : goal.loop-p-preserved
loop-p-preserved g c =
    let it = c.args.self.now in
    let t = graph it.fitted.tables in
    let kept = c.loop-p.invariant in
    let step = c.in-Some.ensures.steps in
    let u = c.rows.u in
    let p = c.in-Some.p in
    let right = EntriesRight g.K.Ranking.atleast t in
    let here : InRow t u p = record { parcel = c.rows-test.true; from = omega (arith, kept.3, step.1.1); to = omega (arith, kept.4, step.1.0, step.1.1) } in
    let next : p + 1 ≡ c.next.new.self.start = omega (arith, step.1.1, step.1.2) in
    let before = subst right (sym step.1.1) kept.5 in
    let more = before_more t it.right.each (λ v q. entry_fault g.K.Ranking.atleast t v q ≡ 0) u p here before c.in_default.ensures in
    (tt, tt, kept.2, omega (arith, kept.3, step.1.2), step.0 ∙ kept.4, subst right next more)

pub returns-in-Some-entry_fault : goal.returns-in-Some-entry_fault
returns-in-Some-entry_fault g c =
    let t = graph c.args.self.now.fitted.tables in
    let kept = c.loop-p.invariant in
    let step = c.in-Some.ensures.steps in
    record {
      row = c.rows.u;
      within = record { parcel = c.rows-test.true; from = omega (arith, kept.3, step.1.1); to = omega (arith, kept.4, step.1.0, step.1.1) };
      before = subst (EntriesRight g.K.Ranking.atleast t) (sym step.1.1) kept.5;
      lowest = search rules;
      wrong = search rules;
    }

pub returns-after-rows : goal.returns-after-rows
returns-after-rows g c =
    let it = c.args.self.now in
    let t = graph it.fitted.tables in
    let end : c.rows.u ≡ parcels t = omega arith in
    subst (WrongEntry g.K.Ranking.atleast t) (sym c.rows.invariant.0)
    (λ v q there. c.rows.invariant.1 v q there (subst (λ u. q < row_start t u) (sym end) (before_all t it.right.each v q there)))
