use Rattle.std.proofs.Common.{◌≡◌, ◌+◌, ◌<◌, ◌≤◌, min, length, sym, refl, ap, ◌∙◌, subst, arith}
use Rattle.std.proofs.lemmas.Result.{err_from_is_err_and}
use Rattle.sheet.specs.View.{graph}
use Rattle.sheet.specs.Held.{held}
use Rattle.sheet.specs.Graph.{parcels}
use Rattle.sheet.proofs.Held.{held_sound}
use Rattle.protocol.specs.Turns.{no_parcel, start_sizes, start_room}
use Rattle.protocol.proofs.Holds.{fits_facts}
use Rattle.protocol.proofs.Refusals.{start_not_accepted}
use Rattle.round.specs.Seen.{world}
use Rattle.round.proofs.Carried.{meant}
use Rattle.round.proofs.Begun.{refused_start}
use Rattle.round.proofs.starting.start.Goals as goal

pub returns-then-u-tables-clause-turn : goal.returns-then-u-tables-clause-turn
returns-then-u-tables-clause-turn g c =
    let past : parcels (held c.args.sheet.now) ≤ c.args.parcel = subst (λ x. parcels (graph x) ≤ c.args.parcel) c.tables.ensures c.if-u-tables.true in
    (no_parcel past, start_not_accepted g.K.Ranking.atleast g.met.K.Ranking.lawful (held c.args.sheet.now) (no_parcel past), refl)

pub returns-then-not-fits-clause-turn : goal.returns-then-not-fits-clause-turn
returns-then-not-fits-clause-turn g c =
    let below : c.args.parcel < parcels (held c.args.sheet.now) = subst (λ x. c.args.parcel < parcels (graph x)) c.tables.ensures c.if-u-tables.false in
    let why = start_sizes below (sym c.if-not-fits.ensures) in
    (why, start_not_accepted g.K.Ranking.atleast g.met.K.Ranking.lawful (held c.args.sheet.now) why, refl)

pub returns-then-count-free-clause-turn : goal.returns-then-count-free-clause-turn
returns-then-count-free-clause-turn g c =
    let s = c.args.sheet.now in
    let below : c.args.parcel < parcels (held s) = subst (λ x. c.args.parcel < parcels (graph x)) c.tables.ensures c.if-u-tables.false in
    let w = world g.L.Line.waiting g.L.Line.capacity g.L.Line.chosen c.args.round.now c.args.board.now.records.now c.args.board.now.marks.now c.args.board.now.line.now in
    let facts = fits_facts (held s) w (sym c.if-not-fits.ensures) in
    let m = meant g.K.Ranking.atleast (held s) (held_sound s) c.args.parcel c.args.board.now.marks.now below facts.marks_long c.plan-plan.result c.plan-plan.ensures in
    let why = start_room below (sym c.if-not-fits.ensures) c.in_ok-try_idle.ensures m.chooses (omega (arith, m.many, c.sending-count.ensures, c.free.ensures, c.if-count-free.true)) in
    (why, start_not_accepted g.K.Ranking.atleast g.met.K.Ranking.lawful (held s) why, refl)

pub carry_out-requires : goal.carry_out-requires
carry_out-requires g c =
    let s = c.args.sheet.now in
    let below : c.args.parcel < parcels (held s) = subst (λ x. c.args.parcel < parcels (graph x)) c.tables.ensures c.if-u-tables.false in
    let w = world g.L.Line.waiting g.L.Line.capacity g.L.Line.chosen c.args.round.now c.args.board.now.records.now c.args.board.now.marks.now c.args.board.now.line.now in
    let facts = fits_facts (held s) w (sym c.if-not-fits.ensures) in
    record {
      parcel = below;
      long = facts.marks_long;
      planned = c.plan-plan.ensures;
      room = omega (arith, c.sending-count.ensures, c.free.ensures, c.if-count-free.false, (g.L.Line.lawful c.args.board.now.line.now).within);
    }

pub returns-clause-turn : goal.returns-clause-turn
returns-clause-turn g c =
    let s = c.args.sheet.now in
    let below : c.args.parcel < parcels (held s) = subst (λ x. c.args.parcel < parcels (graph x)) c.tables.ensures c.if-u-tables.false in
    let did = c.carry_out.ensures.done in
    let turn = c.count_turn.ensures in
    let many : length did.out ≡ c.sending-count.result = did.many ∙ sym c.sending-count.ensures in
    record {
      accepted = record {
        parcel = below;
        fitting = sym c.if-not-fits.ensures;
        idle = c.in_ok-try_idle.ensures;
        record' = c.carry_out.result;
        marks' = c.carry_out.new.marks;
        out = did.out;
        chooses = did.chooses;
        room = omega (arith, many, c.free.ensures, c.if-count-free.false);
      };
      changes = record {
        records = refl;
        marks = refl;
        waiting = did.put;
        turns = turn.turns;
        sent = turn.sent' ∙ ap (λ n. min (c.args.round.now.sent + n) 4294967295) (sym many);
        capacity = c.carry_out.ensures.size;
        parcel_count = turn.parcels;
        entry_count = turn.entries;
        store_count = turn.stores;
      };
    }

pub returns-in_err-try_idle-clause-turn : goal.returns-in_err-try_idle-clause-turn
returns-in_err-try_idle-clause-turn g c =
    let t = held c.args.sheet.now in
    let w = world g.L.Line.waiting g.L.Line.capacity g.L.Line.chosen c.args.round.now c.args.board.now.records.now c.args.board.now.marks.now c.args.board.now.line.now in
    let below : c.args.parcel < parcels t = subst (λ x. c.args.parcel < parcels (graph x)) c.tables.ensures c.if-u-tables.false in
    let p = err_from_is_err_and c.from_residual.result c.from_residual.ensures.1 in
    let why = refused_start g.K.Ranking.atleast t w c.args.parcel below (sym c.if-not-fits.ensures) c.in_err-try_idle.field-0.0 c.in_err-try_idle.ensures in
    rw (p.1, p.2) (why, start_not_accepted g.K.Ranking.atleast g.met.K.Ranking.lawful t why, refl)
