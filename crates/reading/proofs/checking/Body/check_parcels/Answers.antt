use Rattle.std.proofs.Common.{[], ◌∷◌, ◌++◌, refl}
use Rattle.text.specs.Rows.{none}
use Rattle.reading.proofs.Lists.{one_longer}
use Rattle.reading.proofs.Passed.{parcels_push}
use Rattle.reading.proofs.checking.Body.check_parcels.Goals as goal

pub loop-i-init : goal.loop-i-init
loop-i-init c = ([], refl, record { fit = tt; written = none refl }, refl)

pub loop-i-preserved : goal.loop-i-preserved
loop-i-preserved c =
    let so = c.loop-i.invariant in
    let told = rw c.in_ok-ok_or.ensures.ok_part at c.parcel_line.ensures in
    let p = c.in_ok-ok_or.field-0 in
    (so.0 ++ p ∷ [], one_longer so.0 p so.1, parcels_push p so.2 so.1 told.0 told.1, so.3)
