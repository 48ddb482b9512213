use Rattle.std.proofs.lemmas.Result.{err_from_is_err_and}
use Rattle.sheet_text.specs.Checking.{by_reading}
use Rattle.sheet_text.proofs.Texts.{found, room_after, checks_by, refused_by}
use Rattle.sheet_text.proofs.check_text.Goals as goal

pub returns-in_err-sizes-clause-checks : goal.returns-in_err-sizes-clause-checks
returns-in_err-sizes-clause-checks c =
    let p = err_from_is_err_and c.from_residual.result c.from_residual.ensures.1 in
    rw (p.1, p.2) (by_reading c.in_err-sizes.ensures.reads)

pub unreachable-requires : goal.unreachable-requires
unreachable-requires c = absurd (c.in_default.ensures (room_after (found c.in_ok-sizes.ensures.reads)))

pub returns-in_err-check-clause-checks : goal.returns-in_err-check-clause-checks
returns-in_err-check-clause-checks c =
    let p = err_from_is_err_and c.from_residual-in_err-check.result c.from_residual-in_err-check.ensures.1 in
    let told = c.in_err-check.ensures in
    rw (p.1, p.2) (refused_by (found c.in_ok-sizes.ensures.reads) c.in-Some.ensures.1 told.0 told.1)

pub returns-clause-checks : goal.returns-clause-checks
returns-clause-checks c =
    let text = found c.in_ok-sizes.ensures.reads in
    (text.listing, text.sizes, checks_by text c.in-Some.ensures.1 c.in_ok-check.ensures.0)
