use Rattle.std.proofs.Common.{◌≡◌, get_or, ap, arith}
use Rattle.text.proofs.OneWay.{one_row}
use Rattle.reading.proofs.rows.entry_line.Goals as goal

pub returns-then-row-parcels : goal.returns-then-row-parcels
returns-then-row-parcels g c = λ x rest fit low b.
    let told = c.in_ok-row.ensures in
    let same = (one_row told.written b).0 in
    let row : x.row ≡ told.entry.row = ap (λ l. get_or l 0 0) same in
    let read : get_or c.in_ok-row.field-0 0 0 ≡ told.entry.row = ap (λ l. get_or l 0 0) told.numbers in
    omega (arith, fit.known)
