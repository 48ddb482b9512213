use Rattle.std.proofs.Common.{◌≡◌, [], sym, subst}
use Rattle.std.proofs.lemmas.Bool.{both_ways}
use Rattle.std.proofs.lemmas.Result.{err_from_is_err_and}
use Rattle.sheet.specs.Held.{held}
use Rattle.protocol.proofs.Holds.{fits_facts}
use Rattle.round.specs.Seen.{world}
use Rattle.round.specs.Closing.{CloseRefused, other_sizes, undecided, waiting}
use Rattle.round.proofs.Ended.{close_strays}
use Rattle.round.proofs.closing.try_close.Goals as goal

pub returns-then-not-fits_sheet : goal.returns-then-not-fits_sheet
returns-then-not-fits_sheet g c = other_sizes (sym c.if-not-fits_sheet.ensures)

pub returns-in_err-try_records : goal.returns-in_err-try_records
returns-in_err-try_records g c =
    let l = g.L.Line in
    let w = world l.waiting l.capacity l.chosen c.args.round.now c.args.ledger.records.now c.args.marks.now c.args.line.now in
    let p = err_from_is_err_and c.from_residual.result c.from_residual.ensures.1 in
    rw (p.1, p.2) (close_strays (held c.args.ledger.sheet.now) w (sym c.if-not-fits_sheet.ensures) c.in_err-try_records.ensures)

pub returns-in-Some : goal.returns-in-Some
returns-in-Some g c =
    let found = c.in-Some.ensures in
    undecided (sym c.if-not-fits_sheet.ensures) c.in_ok-try_records.ensures found.0 found.1 found.2

pub returns-then-not-is_empty : goal.returns-then-not-is_empty
returns-then-not-is_empty g c =
    let s = c.args.ledger.sheet.now in
    let l = g.L.Line in
    let w = world l.waiting l.capacity l.chosen c.args.round.now c.args.ledger.records.now c.args.marks.now c.args.line.now in
    let fit = sym c.if-not-fits_sheet.ensures in
    let some : w.waiting ≡ [] → ⊥ = λ none. both_ways c.is_empty.result c.if-not-is_empty.true (c.is_empty.ensures.1 none) in
    subst (CloseRefused (held s) w 18) (sym (fits_facts (held s) w fit).parcel_count) (waiting fit c.in_ok-try_records.ensures c.in_default.ensures some)
