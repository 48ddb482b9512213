use Rattle.std.proofs.Common.{◌≡◌, List, length}
use Rattle.text.specs.Parts.{left}
use Rattle.reading.specs.declared.rows.Parcel.{Parcel}
use Rattle.reading.specs.Passing.{Parcels}
use Rattle.reading.proofs.checking.Body.check_parcels.Given as goal

abbrev pub invariant-loop-i : goal.invariant-loop-i
invariant-loop-i l = (ps : List Parcel) × (length ps ≡ l.i) × Parcels ps (left l.initial.self.lines) (left l.self.lines) × (l.self.sizes ≡ l.initial.self.sizes)
