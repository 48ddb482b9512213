use Rattle.std.proofs.Common.{sym, refl, ◌∙◌, arith}
use Rattle.std.proofs.lemmas.List.{set-set, set-get_or}
use Rattle.sheet.specs.Held.{held}
use Rattle.sheet.proofs.Held.{held_sound}
use Rattle.line.proofs.Lines.{one_more}
use Rattle.round.specs.Parts.{sends}
use Rattle.round.proofs.Receipt.{took_loses, took_turns, many_drop, drop_long}
use Rattle.round.proofs.fetching.Arrival.receive_drop.Goals as goal

pub returns-then-not-awaits : goal.returns-then-not-awaits
returns-then-not-awaits g c =
    let s = c.args.self.now.sheet.now in
    let line = g.L.Line in (
      took_loses g.K.Ranking.atleast (held s) (held_sound s) c.args.self.now.note c.args.self.now.was c.args.marks.now c.requires.long c.args.self.now.at c.args.self.now.within c.args.self.now.entry (line.waiting c.args.line.now) (line.waiting c.take_sure.new.line) c.take_sure.ensures.notes _ c.requires.kind (sym c.if-not-awaits.ensures),
      c.take_sure.ensures.size,
    )

pub overflow_add-free : goal.overflow_add-free
overflow_add-free g c = omega (arith, c.free.ensures, (g.L.Line.lawful c.args.line.now).limit)

pub returns-then-count-free : goal.returns-then-count-free
returns-then-count-free g c =
    let s = c.args.self.now.sheet.now in (
      many_drop g.K.Ranking.atleast (held s) (held_sound s) c.args.self.now.note c.args.self.now.was c.args.marks.now c.requires.long c.args.self.now.at c.args.self.now.within c.args.self.now.entry _ c.sending-count.result c.requires.kind (sym c.if-not-awaits.ensures) c.plan_choice-plan.result c.plan_choice-plan.ensures c.sending-count.ensures (omega (arith, c.free.ensures, c.if-count-free.true)),
      set-set c.args.marks.now c.args.self.now.at _ _ ∙ set-get_or c.args.marks.now c.args.self.now.at 0,
      refl,
    )

pub carry_out-requires : goal.carry_out-requires
carry_out-requires g c =
    let s = c.args.self.now.sheet.now in
    record {
      parcel = c.args.self.now.within.parcel;
      long = drop_long g.K.Ranking.atleast (held s) (held_sound s) c.args.self.now.note c.args.self.now.was c.args.marks.now c.requires.long c.args.self.now.at c.args.self.now.within c.args.self.now.entry;
      planned = c.plan_choice-plan.ensures;
      room = omega (arith, c.sending-count.ensures, c.free.ensures, c.if-count-free.false, one_more c.take_sure-2.ensures.notes, c.take_sure-2.ensures.size, (g.L.Line.lawful c.args.line.now).within);
    }

pub returns : goal.returns
returns g c =
    let s = c.args.self.now.sheet.now in
    let line = g.L.Line in (
      took_turns g.K.Ranking.atleast (held s) (held_sound s) c.args.self.now.note c.args.self.now.was c.args.marks.now c.requires.long c.args.self.now.at c.args.self.now.within c.args.self.now.entry (line.waiting c.args.line.now) (line.waiting c.take_sure-2.new.line) c.take_sure-2.ensures.notes _ c.requires.kind (sym c.if-not-awaits.ensures) c.carry_out.result c.carry_out.new.marks (line.waiting c.carry_out.new.line) (sends c.plan_choice-plan.result) c.sending-count.result c.sending-count.ensures (omega (arith, c.free.ensures, c.if-count-free.false)) c.carry_out.ensures.done,
      c.carry_out.ensures.size ∙ c.take_sure-2.ensures.size,
    )
