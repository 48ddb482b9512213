use Rattle.std.proofs.Common.{ℕ, Bool, ◌≡◌, ◌+◌, Some, sym, ◌∙◌, subst, arith}
use Rattle.sheet.specs.Graph.{InRow}
use Rattle.sheet.specs.View.{graph}
use Rattle.sheet.specs.Held.{held}
use Rattle.sheet.proofs.Rows.{from_range, in_range}
use Rattle.choosing.proofs.Tops.{Sofar, Answer, passed, goes_up, stays, all_seen}
use Rattle.choosing.proofs.top_entry.Goals as goal
use Rattle.choosing.proofs.top_entry.Goals.{else-stands_at-via-then-stands_at+else-no_lower, else-stands_at-via-else-stands_at}

pub loop-p-preserved-then-no_lower : goal.loop-p-preserved-then-no_lower
loop-p-preserved-then-no_lower g c =
    let atleast = g.K.Ranking.atleast in
    let laws = g.met.K.Ranking.lawful in
    let t = held c.args.sheet.now in
    let stands : ℕ → Bool = g.C.Candidates.stands c.args.candidates.now in
    let u = c.args.parcel in
    let p = c.in-Some.p in
    let top = c.loop-p.top in
    let kept = c.loop-p.invariant in
    let step = c.in-Some.ensures.steps in
    let here : InRow t u p = from_range t u p (omega (arith, kept.2, step.1.1)) (omega (arith, kept.3, step.1.0, step.1.1)) in
    let sofar = subst (λ x. Sofar atleast t stands u x top) (sym step.1.1) kept.4 in
    let next : p + 1 ≡ c.next.new.self.start = omega (arith, step.1.1, step.1.2) in
    let answer = subst (λ x. Answer atleast laws (graph x) stands u p top c.no_lower.result) c.tables.ensures c.no_lower.ensures in
    let up = goes_up atleast laws t stands u p top c.no_lower.result here (sym {b = stands p} c.if-stands_at.ensures) answer c.if-no_lower.true sofar in
    (tt, tt, omega (arith, kept.2, step.1.2), step.0 ∙ kept.3, subst (λ x. Sofar atleast t stands u x (Some p)) next up)

pub loop-p-preserved : goal.loop-p-preserved
loop-p-preserved g c =
    let atleast = g.K.Ranking.atleast in
    let laws = g.met.K.Ranking.lawful in
    let t = held c.args.sheet.now in
    let stands : ℕ → Bool = g.C.Candidates.stands c.args.candidates.now in
    let u = c.args.parcel in
    let p = c.in-Some.p in
    let top = c.loop-p.top in
    let kept = c.loop-p.invariant in
    let step = c.in-Some.ensures.steps in
    let sofar = subst (λ x. Sofar atleast t stands u x top) (sym step.1.1) kept.4 in
    let next : p + 1 ≡ c.next.new.self.start = omega (arith, step.1.1, step.1.2) in
    let on : Sofar atleast t stands u (p + 1) top = elim c.else-stands_at.branch [
      | else-stands_at-via-then-stands_at+else-no_lower w ↦
          let answer = subst (λ x. Answer atleast laws (graph x) stands u p top w.no_lower.result) c.tables.ensures w.no_lower.ensures in
          stays atleast laws t stands u p top w.no_lower.result answer w.if-no_lower.false sofar
      | else-stands_at-via-else-stands_at w ↦ passed atleast laws t stands u p top (sym {b = stands p} w.if-stands_at.ensures) sofar
    ] in
    (tt, tt, omega (arith, kept.2, step.1.2), step.0 ∙ kept.3, subst (λ x. Sofar atleast t stands u x top) next on)

pub returns : goal.returns
returns g c =
    let t = held c.args.sheet.now in
    let u = c.args.parcel in
    let kept = c.loop-p.invariant in
    let step = c.in-None.ensures.steps in
    all_seen g.K.Ranking.atleast g.met.K.Ranking.lawful t (g.C.Candidates.stands c.args.candidates.now) u c.loop-p.p-iterator.start c.loop-p.top
    (λ r there. let inside = in_range t u r there in omega (arith, inside.1, kept.3, step.1.0))
    kept.4
