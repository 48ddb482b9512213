use Rattle.std.proofs.Common.{◌≡◌, ◌+◌, ◌<◌, ◌≤◌, min, true, Some, unwrap_or, sym, refl, ap, ◌∙◌, subst, arith}
use Rattle.std.proofs.lemmas.Result.{err_from_is_err_and}
use Rattle.faults.specs.declared.Refusal.TheVariants.{NothingWaits, StrayNote, NoRoom}
use Rattle.sheet.specs.View.{graph}
use Rattle.sheet.specs.Graph.{InRow}
use Rattle.sheet.specs.Held.{held}
use Rattle.sheet.proofs.Held.{held_sound}
use Rattle.protocol.specs.Turns.{no_store, fetch_sizes, nothing, stray_note, wrong_record, fetch_room}
use Rattle.protocol.proofs.Holds.{fits_facts}
use Rattle.protocol.proofs.Refusals.{fetch_not_accepted}
use Rattle.round.specs.Seen.{world}
use Rattle.round.proofs.Coming.{comes_parcel, comes_row, strays_here}
use Rattle.round.proofs.Handed.{handed_store}
use Rattle.round.proofs.fetching.fetch.Goals as goal

pub returns-then-store-tables-clause-turn : goal.returns-then-store-tables-clause-turn
returns-then-store-tables-clause-turn g c =
    let s = c.args.sheet.now in
    let why = no_store (subst (λ x. (graph x).limit ≤ c.args.store) c.tables.ensures c.if-store-tables.true) in
    (why, fetch_not_accepted g.K.Ranking.atleast g.met.K.Ranking.lawful (held s) why, refl)

pub returns-then-not-fits-clause-turn : goal.returns-then-not-fits-clause-turn
returns-then-not-fits-clause-turn g c =
    let s = c.args.sheet.now in
    let low : c.args.store < (held s).limit = subst (λ x. c.args.store < (graph x).limit) c.tables.ensures c.if-store-tables.false in
    let why = fetch_sizes low (sym c.if-not-fits.ensures) in
    (why, fetch_not_accepted g.K.Ranking.atleast g.met.K.Ranking.lawful (held s) why, refl)

pub returns-in_err-note-clause-turn : goal.returns-in_err-note-clause-turn
returns-in_err-note-clause-turn g c =
    let s = c.args.sheet.now in
    let low : c.args.store < (held s).limit = subst (λ x. c.args.store < (graph x).limit) c.tables.ensures c.if-store-tables.false in
    let fit = sym c.if-not-fits.ensures in
    let p = err_from_is_err_and c.from_residual.result c.from_residual.ensures.1 in
    let refused = rw c.in_err-note.ensures.ok_part at c.in_err-note.ensures.value in
    let fault : c.in_err-note.field-0.0 ≡ (NothingWaits, c.args.store) = cc in
    let why = nothing low fit (sym c.next.ensures ∙ c.in_err-note.ensures.ok_part) in
    rw (p.1, p.2, fault) (why, fetch_not_accepted g.K.Ranking.atleast g.met.K.Ranking.lawful (held s) why, refl)

pub returns-in_err-kind-clause-turn : goal.returns-in_err-kind-clause-turn
returns-in_err-kind-clause-turn g c =
    let s = c.args.sheet.now in
    let low : c.args.store < (held s).limit = subst (λ x. c.args.store < (graph x).limit) c.tables.ensures c.if-store-tables.false in
    let fit = sym c.if-not-fits.ensures in
    let next = sym c.next.ensures ∙ c.in_ok-note.ensures.ok_part in
    let p = err_from_is_err_and c.from_residual-in_err-kind.result c.from_residual-in_err-kind.ensures.1 in
    let refused = rw c.in_err-kind.ensures.ok_part at c.in_err-kind.ensures.value in
    let fault : c.in_err-kind.field-0.0 ≡ (StrayNote, c.args.store) = cc in
    let why = stray_note low fit next (rw c.in_err-kind.ensures.ok_part at c.entry_for.ensures) in
    rw (p.1, p.2, fault) (why, fetch_not_accepted g.K.Ranking.atleast g.met.K.Ranking.lawful (held s) why, refl)

pub returns-then-strays-clause-turn : goal.returns-then-strays-clause-turn
returns-then-strays-clause-turn g c =
    let s = c.args.sheet.now in
    let w = world g.L.Line.waiting g.L.Line.capacity g.L.Line.chosen c.args.round.now c.args.board.now.records.now c.args.board.now.marks.now c.args.board.now.line.now in
    let low : c.args.store < (held s).limit = subst (λ x. c.args.store < (graph x).limit) c.tables.ensures c.if-store-tables.false in
    let fit = sym c.if-not-fits.ensures in
    let next = sym c.next.ensures ∙ c.in_ok-note.ensures.ok_part in
    let facts = fits_facts (held s) w fit in
    let comes = rw c.in_ok-kind.ensures.ok_part at c.entry_for.ensures in
    let below = comes_parcel g.K.Ranking.atleast (held s) (held_sound s) c.args.store c.in_ok-note.note comes.0 in
    let strays = c.unwrap_or-strays.ensures ∙ ap (λ o. unwrap_or o true) c.strays.ensures ∙ strays_here (held s) c.args.board.now.records.now c.in_ok-note.note.addressee facts.records_long below in
    let why = wrong_record low fit next comes.0 (sym strays ∙ c.if-strays.true) in
    (why, fetch_not_accepted g.K.Ranking.atleast g.met.K.Ranking.lawful (held s) why, refl)

pub invariant_of-arrival : goal.invariant_of-arrival
invariant_of-arrival g c =
    let s = c.args.sheet.now in
    let comes = rw c.in_ok-kind.ensures.ok_part at c.entry_for.ensures in
    record {
      within = subst (InRow (held s) c.in_ok-note.note.addressee) (sym comes.2) (comes_row g.K.Ranking.atleast (held s) (held_sound s) c.args.store c.in_ok-note.note comes.0);
      entry = comes.2;
    }

pub receive-received-requires : goal.receive-received-requires
receive-received-requires g c =
    let s = c.args.sheet.now in
    let w = world g.L.Line.waiting g.L.Line.capacity g.L.Line.chosen c.args.round.now c.args.board.now.records.now c.args.board.now.marks.now c.args.board.now.line.now in
    let fit = sym c.if-not-fits.ensures in
    let next = sym c.next.ensures ∙ c.in_ok-note.ensures.ok_part in
    let facts = fits_facts (held s) w fit in
    let comes = rw c.in_ok-kind.ensures.ok_part at c.entry_for.ensures in
    let here = handed_store (g.L.Line.waiting c.args.board.now.line.now) (g.L.Line.capacity c.args.board.now.line.now) (g.L.Line.chosen c.args.board.now.line.now) (g.L.Line.lawful c.args.board.now.line.now) c.args.store c.in_ok-note.note next in
    record {
      kind = comes.1;
      long = facts.marks_long;
      handed = subst (λ x. g.L.Line.chosen c.args.board.now.line.now x ≡ Some c.in_ok-note.note) (sym here) next;
    }

pub returns-in_err-now_is-clause-turn : goal.returns-in_err-now_is-clause-turn
returns-in_err-now_is-clause-turn g c =
    let s = c.args.sheet.now in
    let w = world g.L.Line.waiting g.L.Line.capacity g.L.Line.chosen c.args.round.now c.args.board.now.records.now c.args.board.now.marks.now c.args.board.now.line.now in
    let low : c.args.store < (held s).limit = subst (λ x. c.args.store < (graph x).limit) c.tables.ensures c.if-store-tables.false in
    let fit = sym c.if-not-fits.ensures in
    let next = sym c.next.ensures ∙ c.in_ok-note.ensures.ok_part in
    let facts = fits_facts (held s) w fit in
    let comes = rw c.in_ok-kind.ensures.ok_part at c.entry_for.ensures in
    let below = comes_parcel g.K.Ranking.atleast (held s) (held_sound s) c.args.store c.in_ok-note.note comes.0 in
    let strays = c.unwrap_or-strays.ensures ∙ ap (λ o. unwrap_or o true) c.strays.ensures ∙ strays_here (held s) c.args.board.now.records.now c.in_ok-note.note.addressee facts.records_long below in
    let none = rw c.in_err-now_is.ensures.ok_part at c.receive-received.ensures in
    let many = none.0 in
    let p = err_from_is_err_and c.from_residual-in_err-now_is.result c.from_residual-in_err-now_is.ensures.1 in
    let refused = rw c.in_err-now_is.ensures.ok_part at c.in_err-now_is.ensures.value in
    let fault : c.in_err-now_is.field-0.0 ≡ (NoRoom, c.in_ok-note.note.addressee) = cc in
    let why = fetch_room low fit next comes.0 (sym strays ∙ c.if-strays.false) many.receives many.over in
    rw (p.1, p.2, fault) (
      why,
      fetch_not_accepted g.K.Ranking.atleast g.met.K.Ranking.lawful (held s) why,
      ap (λ m. world g.L.Line.waiting g.L.Line.capacity g.L.Line.chosen c.args.round.now c.args.board.now.records.now m c.receive-received.new.line) none.1
          ∙ ap (λ l. world g.L.Line.waiting g.L.Line.capacity g.L.Line.chosen c.args.round.now c.args.board.now.records.now c.args.board.now.marks.now l) none.2,
    )

pub returns-clause-turn : goal.returns-clause-turn
returns-clause-turn g c =
    let s = c.args.sheet.now in
    let w = world g.L.Line.waiting g.L.Line.capacity g.L.Line.chosen c.args.round.now c.args.board.now.records.now c.args.board.now.marks.now c.args.board.now.line.now in
    let low : c.args.store < (held s).limit = subst (λ x. c.args.store < (graph x).limit) c.tables.ensures c.if-store-tables.false in
    let fit = sym c.if-not-fits.ensures in
    let next = sym c.next.ensures ∙ c.in_ok-note.ensures.ok_part in
    let facts = fits_facts (held s) w fit in
    let comes = rw c.in_ok-kind.ensures.ok_part at c.entry_for.ensures in
    let below = comes_parcel g.K.Ranking.atleast (held s) (held_sound s) c.args.store c.in_ok-note.note comes.0 in
    let strays = c.unwrap_or-strays.ensures ∙ ap (λ o. unwrap_or o true) c.strays.ensures ∙ strays_here (held s) c.args.board.now.records.now c.in_ok-note.note.addressee facts.records_long below in
    let did = rw c.in_ok-now_is.ensures.ok_part at c.receive-received.ensures in
    let took = did.0 in
    let turn = c.count_turn.ensures in
    record {
      accepted = record {
        store = low;
        fitting = fit;
        note = c.in_ok-note.note;
        next = next;
        comes = comes.0;
        right = sym strays ∙ c.if-strays.false;
        record' = c.in_ok-now_is.now_is;
        marks' = c.receive-received.new.marks;
        out = took.out;
        receives = took.receives;
        room = omega (arith, took.many, took.room);
      };
      rest = took.rest;
      taken = took.taken;
      changes = record {
        records = refl;
        marks = refl;
        waiting = took.put;
        turns = turn.turns;
        sent = turn.sent' ∙ ap (λ n. min (c.args.round.now.sent + n) 4294967295) (sym took.many);
        capacity = did.1;
        parcel_count = turn.parcels;
        entry_count = turn.entries;
        store_count = turn.stores;
      };
    }
