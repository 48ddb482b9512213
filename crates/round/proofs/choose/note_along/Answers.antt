use Rattle.std.proofs.Common.{◌<◌, sym, subst}
use Rattle.sheet.specs.Graph.{other, parcels}
use Rattle.sheet.specs.Held.{held}
use Rattle.sheet.specs.View.{graph}
use Rattle.sheet.proofs.Held.{held_sound}
use Rattle.pairing.proofs.Entries.{other_below}
use Rattle.round.proofs.choose.note_along.Goals as goal

pub bounds-tables-addressee : goal.bounds-tables-addressee
bounds-tables-addressee g c =
    let s = c.args.sheet.now in
    subst (λ x. other (graph x) c.args.p < parcels (graph x)) (sym c.tables-tables.ensures) (other_below (held s) (held_sound s) c.args.u c.args.p c.requires)
