use Rattle.std.proofs.Common.{◌≡◌, List, length}
use Rattle.text.specs.Parts.{left}
use Rattle.reading.specs.declared.rows.Parcel.{Parcel}
use Rattle.reading.specs.Outcome.{lent, SameSlices, with_parcels}
use Rattle.reading.specs.Passing.{Parcels}
use Rattle.reading.proofs.TablesMut.fill_parcels.Given as goal

abbrev pub invariant-loop-i : goal.invariant-loop-i
invariant-loop-i g l =
    (ps : List Parcel)
    × (length ps ≡ l.i)
    × Parcels ps (left l.initial.body.lines) (left l.body.lines)
    × (l.body.sizes ≡ l.initial.body.sizes)
    × (lent l.self ≡ with_parcels ps (lent l.initial.self))
    × SameSlices l.initial.self l.self
