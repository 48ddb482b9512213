use Rattle.std.proofs.Common.{◌≡◌, ◌+◌, ◌<◌, length, sym, refl, ap, ◌∙◌, subst, arith}
use Rattle.sheet.specs.Held.{held}
use Rattle.sheet.specs.Graph.{InRow, row_start, row_end}
use Rattle.sheet.proofs.Facts.{parcel_facts}
use Rattle.sheet.proofs.Held.{held_sound}
use Rattle.pairing.proofs.Entries.{place_below}
use Rattle.round.proofs.Rows.{row_ends}
use Rattle.round.proofs.Going.{Going, going_start, going_room, going_step, going_end}
use Rattle.round.proofs.choose.let_go.Goals as goal

pub loop-q-init : goal.loop-q-init
loop-q-init g c =
    let s = c.args.sheet.now in
    let t = held s in
    let m = c.args.marks.now in
    let w = g.L.Line.waiting c.args.line.now in
    let row = parcel_facts t c.args.u ((held_sound s).parcel c.args.u c.requires.parcel) in
    let ends = row_ends t c.args.u c.requires.parcel in
    let first : row_start t c.args.u ≡ c.into_iter-q-iterator.result.start = sym (ap (λ r. r.start) (c.into_iter-q-iterator.ensures.into_iter_gives ∙ c.row-q-items.ensures) ∙ ends.0) in
    let last : c.into_iter-q-iterator.result.end ≡ row_end t c.args.u = ap (λ r. r.end) (c.into_iter-q-iterator.ensures.into_iter_gives ∙ c.row-q-items.ensures) ∙ ends.1 in
    (subst (λ q. Going t c.args.u c.args.keep m w q m w) first (going_start t c.args.u c.args.keep m w c.requires.parcel), refl, omega (arith, first), omega (arith, first, last, row.forward), last)

pub drop_other-requires-clause-room : goal.drop_other-requires-clause-room
drop_other-requires-clause-room g c =
    let t = held c.args.sheet.now in
    let w = g.L.Line.waiting c.args.line.now in
    let inv = c.loop-q.invariant in
    let steps = c.in-Some.ensures.steps in
    let row : InRow t c.args.u c.in-Some.q = record { parcel = c.requires.parcel; from = omega (arith, inv.2, steps); to = omega (arith, inv.4, steps) } in
    let go = subst (λ q. Going t c.args.u c.args.keep c.args.marks.now w q c.loop-q.marks (g.L.Line.waiting c.loop-q.line)) (sym steps.1.1) inv.0 in
    λ is. subst (λ n. length (g.L.Line.waiting c.loop-q.line) < n) (sym inv.1) (going_room t c.args.u c.args.keep c.args.marks.now w c.in-Some.q row c.loop-q.marks (g.L.Line.waiting c.loop-q.line) go (g.L.Line.capacity c.args.line.now) c.requires.room is)

pub loop-q-preserved : goal.loop-q-preserved
loop-q-preserved g c =
    let t = held c.args.sheet.now in
    let w = g.L.Line.waiting c.args.line.now in
    let inv = c.loop-q.invariant in
    let steps = c.in-Some.ensures.steps in
    let row : InRow t c.args.u c.in-Some.q = record { parcel = c.requires.parcel; from = omega (arith, inv.2, steps); to = omega (arith, inv.4, steps) } in
    let go = subst (λ q. Going t c.args.u c.args.keep c.args.marks.now w q c.loop-q.marks (g.L.Line.waiting c.loop-q.line)) (sym steps.1.1) inv.0 in
    let below : c.in-Some.q < length c.loop-q.marks = omega (arith, inv.0.long, c.requires.long, place_below t (held_sound c.args.sheet.now) c.args.u c.in-Some.q row) in
    let next : c.in-Some.q + 1 ≡ c.next.new.self.start = omega (arith, steps) in (
      subst (λ q. Going t c.args.u c.args.keep c.args.marks.now w q c.drop_other.new.marks (g.L.Line.waiting c.drop_other.new.line)) next
          (going_step t c.args.u c.args.keep c.args.marks.now w c.in-Some.q row c.loop-q.marks (g.L.Line.waiting c.loop-q.line) go c.drop_other.new.marks (g.L.Line.waiting c.drop_other.new.line) c.requires.parcel below c.drop_other.ensures.done),
      c.drop_other.ensures.size ∙ inv.1,
      omega (arith, inv.2, steps),
      omega (arith, steps),
      steps.0 ∙ inv.4,
    )

pub returns-clause-done : goal.returns-clause-done
returns-clause-done g c =
    let t = held c.args.sheet.now in
    let inv = c.loop-q.invariant in
    let end : c.loop-q.q-iterator.start ≡ row_end t c.args.u = omega (arith, inv.3, inv.4, c.in-None.ensures.steps) in
    going_end t c.args.u c.args.keep c.args.marks.now (g.L.Line.waiting c.args.line.now) c.loop-q.q-iterator.start c.loop-q.marks (g.L.Line.waiting c.loop-q.line) c.requires.parcel end inv.0
