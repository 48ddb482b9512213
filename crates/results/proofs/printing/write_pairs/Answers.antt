use Rattle.std.proofs.Common.{◌+◌, [], ◌∷◌, length, sym, ap, subst, arith}
use Rattle.sheet.specs.Graph.{parcels}
use Rattle.sheet.specs.Held.{held}
use Rattle.results.specs.Text.{line}
use Rattle.results.specs.Writing.{Wrote}
use Rattle.results.proofs.Put.{wrote_none, room_left, wrote_more}
use Rattle.results.proofs.Pairs.{lines_below, lines_more_some, lines_more_none, lines_longer}
use Rattle.results.proofs.printing.write_pairs.Goals as goal
use Rattle.results.proofs.printing.write_pairs.Goals.{in-Some, in_default}

pub loop-u-init : goal.loop-u-init
loop-u-init g c = wrote_none c.args.text.now

pub line-requires : goal.line-requires
line-requires g c =
    let t = held c.args.ledger.sheet.now in
    let rs = c.args.ledger.records.now in
    let u = c.loop-u.u in
    let one = line (u ∷ c.in-Some.v ∷ []) in
    let all = lines_longer t rs (u + 1) (parcels t) (omega (arith, c.loop-u-test.true, c.parcel_count-u-end.ensures)) in
    room_left c.args.text.now c.loop-u.text (lines_below t rs u) one c.loop-u.invariant
    (omega (arith, c.requires, all, ap length (lines_more_some t rs u c.in-Some.v c.in-Some.ensures)))

pub loop-u-preserved : goal.loop-u-preserved
loop-u-preserved g c =
    let t = held c.args.ledger.sheet.now in
    let rs = c.args.ledger.records.now in
    let u = c.loop-u.u in
    let old = c.args.text.now in
    let all = lines_longer t rs (u + 1) (parcels t) (omega (arith, c.loop-u-test.true, c.parcel_count-u-end.ensures)) in
    elim c.match-partner_above.branch [
      | in-Some w ↦
          let one = line (u ∷ w.in-Some.v ∷ []) in
          let more = lines_more_some t rs u w.in-Some.v w.in-Some.ensures in
          rw w.text-is (subst (Wrote old w.line.new.self) (sym more)
          (wrote_more old c.loop-u.text (lines_below t rs u) one c.loop-u.invariant (omega (arith, c.requires, all, ap length more)) w.line.new.self w.line.ensures))
      | in_default w ↦ rw w.text-is (subst (Wrote old c.loop-u.text) (sym (lines_more_none t rs u w.in_default.ensures)) c.loop-u.invariant)
    ]
