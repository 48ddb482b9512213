use Rattle.std.proofs.Common.{length, sym, refl, ap, ◌∙◌, arith}
use Rattle.sheet.specs.Held.{held}
use Rattle.sheet.proofs.Held.{held_sound}
use Rattle.line.proofs.Lines.{one_more}
use Rattle.round.proofs.Receipt.{took_hears, took_agrees, many_bid, bid_long, bid_others}
use Rattle.round.proofs.fetching.Arrival.receive_bid.Goals as goal

pub returns-then-not-awaits : goal.returns-then-not-awaits
returns-then-not-awaits g c =
    let s = c.args.self.now.sheet.now in
    let line = g.L.Line in (
      took_hears g.K.Ranking.atleast (held s) (held_sound s) c.args.self.now.note c.args.self.now.was c.args.marks.now c.requires.long c.args.self.now.at c.args.self.now.within c.args.self.now.entry (line.waiting c.args.line.now) (line.waiting c.take_sure.new.line) c.take_sure.ensures.notes _ c.requires.kind (sym c.if-not-awaits.ensures),
      c.take_sure.ensures.size,
    )

pub overflow_add-free : goal.overflow_add-free
overflow_add-free g c = omega (arith, c.free.ensures, (g.L.Line.lawful c.args.line.now).limit)

pub returns-then-count-free : goal.returns-then-count-free
returns-then-count-free g c =
    let s = c.args.self.now.sheet.now in
    (many_bid g.K.Ranking.atleast (held s) (held_sound s) c.args.self.now.note c.args.self.now.was c.args.marks.now c.requires.long c.args.self.now.at c.args.self.now.within c.args.self.now.entry _ c.count_open_others-count.result c.requires.kind (sym c.if-not-awaits.ensures) c.count_open_others-count.ensures (omega (arith, c.free.ensures, c.if-count-free.true)), refl, refl)

pub let_go-requires : goal.let_go-requires
let_go-requires g c =
    let s = c.args.self.now.sheet.now in
    let others = ap length (bid_others g.K.Ranking.atleast (held s) (held_sound s) c.args.self.now.note c.args.self.now.was c.args.marks.now c.requires.long c.args.self.now.at c.args.self.now.within c.args.self.now.entry) in
    record {
      parcel = c.args.self.now.within.parcel;
      long = bid_long g.K.Ranking.atleast (held s) (held_sound s) c.args.self.now.note c.args.self.now.was c.args.marks.now c.requires.long c.args.self.now.at c.args.self.now.within c.args.self.now.entry;
      room = omega (arith, others, c.count_open_others-count.ensures, c.free.ensures, c.if-count-free.false, one_more c.take_sure-2.ensures.notes, c.take_sure-2.ensures.size, (g.L.Line.lawful c.args.line.now).within);
    }

pub returns : goal.returns
returns g c =
    let s = c.args.self.now.sheet.now in
    let line = g.L.Line in (
      took_agrees g.K.Ranking.atleast (held s) (held_sound s) c.args.self.now.note c.args.self.now.was c.args.marks.now c.requires.long c.args.self.now.at c.args.self.now.within c.args.self.now.entry (line.waiting c.args.line.now) (line.waiting c.take_sure-2.new.line) c.take_sure-2.ensures.notes _ c.requires.kind (sym c.if-not-awaits.ensures) c.with_choice.result c.let_go.new.marks (line.waiting c.let_go.new.line) c.count_open_others-count.result c.with_choice.ensures c.count_open_others-count.ensures (omega (arith, c.free.ensures, c.if-count-free.false)) c.let_go.ensures.done,
      c.let_go.ensures.size ∙ c.take_sure-2.ensures.size,
    )
