-- A checked sheet is sound. Assumes nothing.
use Rattle.sheet.specs.Check.{Sound}
use Rattle.sheet.specs.Held.{held}
use Rattle.sheet.specs.declared.checked.Sheet.{Sheet}

pub held_sound : {K : Type 0} (s : Sheet K) → Sound (held s)
held_sound s = record {
  sized_right = s.sizes;
  fitted_right = s.lengths;
  bare = s.bare;
  parcel = s.parcel;
  rising = s.rising;
  mirror = s.mirror;
  edition = s.edition;
}
