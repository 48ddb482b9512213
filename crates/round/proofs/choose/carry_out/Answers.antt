use Rattle.std.proofs.Common.{refl, ap, ◌∙◌, arith}
use Rattle.sheet.specs.Held.{held}
use Rattle.line.proofs.Lines.{one_more}
use Rattle.round.specs.Parts.{sends}
use Rattle.round.proofs.Carried.{chose_alone, waits_top, chose_waits, pairs_top, pairs_count, chose_pairs}
use Rattle.round.proofs.choose.carry_out.Goals as goal

pub send-requires : goal.send-requires
send-requires g c =
    record {
      within = (waits_top g.K.Ranking.atleast (held c.args.sheet.now) c.args.u c.args.marks.now c.args.plan c.requires.planned (g.L.Line.waiting c.args.line.now) c.in-Waits.p c.in-Waits.is).within;
      room = omega (arith, ap sends c.in-Waits.is, c.requires.room);
    }

pub send-requires-in-Pairs : goal.send-requires-in-Pairs
send-requires-in-Pairs g c =
    let t = held c.args.sheet.now in
    let before = g.L.Line.waiting c.args.line.now in
    record {
      within = (pairs_top g.K.Ranking.atleast t c.args.u c.args.marks.now c.args.plan c.requires.planned before c.in-Pairs.p c.in-Pairs.field-1 c.in-Pairs.is).within;
      room = omega (arith, pairs_count g.K.Ranking.atleast t c.args.u c.args.marks.now c.args.plan c.requires.planned before c.in-Pairs.p c.in-Pairs.field-1 c.in-Pairs.is, c.requires.room);
    }

pub let_go-requires : goal.let_go-requires
let_go-requires g c =
    let t = held c.args.sheet.now in
    let before = g.L.Line.waiting c.args.line.now in
    record {
      parcel = c.requires.parcel;
      long = c.requires.long;
      room = omega (arith, pairs_count g.K.Ranking.atleast t c.args.u c.args.marks.now c.args.plan c.requires.planned before c.in-Pairs.p c.in-Pairs.field-1 c.in-Pairs.is, c.requires.room, one_more c.send-in-Pairs.ensures.notes, c.send-in-Pairs.ensures.size);
    }

pub returns-in-Alone : goal.returns-in-Alone
returns-in-Alone g c = record {
  done = chose_alone g.K.Ranking.atleast (held c.args.sheet.now) c.args.u c.args.marks.now c.args.plan c.requires.planned (g.L.Line.waiting c.args.line.now) c.in-Alone.is;
  size = refl;
}

pub returns-in-Waits : goal.returns-in-Waits
returns-in-Waits g c = record {
  done = chose_waits g.K.Ranking.atleast (held c.args.sheet.now) c.args.u c.args.marks.now c.args.plan c.requires.planned (g.L.Line.waiting c.args.line.now) c.in-Waits.p c.in-Waits.is c.with_choice.result (g.L.Line.waiting c.send.new.line) c.with_choice.ensures c.send.ensures.notes;
  size = c.send.ensures.size;
}

pub returns-in-Pairs : goal.returns-in-Pairs
returns-in-Pairs g c = record {
  done = chose_pairs g.K.Ranking.atleast (held c.args.sheet.now) c.args.u c.args.marks.now c.args.plan c.requires.planned (g.L.Line.waiting c.args.line.now) c.in-Pairs.p c.in-Pairs.field-1 c.in-Pairs.is c.with_choice-in-Pairs.result c.let_go.new.marks (g.L.Line.waiting c.send-in-Pairs.new.line) (g.L.Line.waiting c.let_go.new.line) c.with_choice-in-Pairs.ensures c.send-in-Pairs.ensures.notes c.let_go.ensures.done;
  size = c.let_go.ensures.size ∙ c.send-in-Pairs.ensures.size;
}
