use Rattle.std.proofs.Common.{sym, arith}
use Rattle.sheet.specs.Graph.{other}
use Rattle.sheet.specs.View.{graph}
use Rattle.sheet.proofs.Facts.{fitted_facts, parcel_facts, entry_facts}
use Rattle.sheet.proofs.fitted.Rows.entry_fault.Goals as goal

pub keys_alike-requires : goal.keys_alike-requires
keys_alike-requires g c =
    let t = graph c.args.self.now.fitted.tables in
    let each = c.args.self.now.right.each in
    let fit = fitted_facts t c.args.self.now.fitted.lengths in
    let here = parcel_facts t c.args.u (each c.args.u c.requires.parcel) in
    let entry = entry_facts t c.args.u c.args.p (sym c.if-not-entry_rises.ensures) in
    let there = parcel_facts t (other t c.args.p) (each (other t c.args.p) entry.below) in
    (omega (arith, c.requires.to), omega (arith, c.in-Some.ensures.before, c.row.ensures.end))
