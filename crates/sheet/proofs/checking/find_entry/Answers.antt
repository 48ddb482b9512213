use Rattle.sheet.specs.View.{graph}
use Rattle.sheet.proofs.Rows.{row_within}
use Rattle.sheet.proofs.checking.find_entry.Goals as goal

pub find-requires : goal.find-requires
find-requires g c =
    let s = c.args.sheet.now in
    let t = graph s.tables in
    rw c.row.ensures (row_within t s.parcel c.args.u)
