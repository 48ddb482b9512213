-- The lent tables, from one call to the next. Assumes nothing.
use Rattle.std.proofs.Common.{◌≡◌, ◌+◌, ◌-◌, ◌≤◌, List, map, length, refl, ap, ◌∙◌, arith, length-append, length-drop}
use Rattle.reading.specs.declared.Sizes.{Sizes}
use Rattle.reading.specs.declared.rows.Parcel.{Parcel}
use Rattle.reading.specs.declared.TablesMut.{TablesMut}
use Rattle.reading.specs.Outcome.{Tables, SameSlices, Room, laid, with_parcels}

pub same_slices : {K : Type 0} {t : TablesMut K} → SameSlices t t
same_slices = record {
  starts = refl;
  others = refl;
  keys = refl;
  stores = refl;
  editions = refl;
  starts_long = refl;
  others_long = refl;
  keys_long = refl;
  stores_long = refl;
  editions_long = refl;
}

pub slices_through : {K : Type 0} {a b c : TablesMut K} → SameSlices a b → SameSlices b c → SameSlices a c
slices_through f g =
    record {
      starts = g.starts ∙ f.starts;
      others = g.others ∙ f.others;
      keys = g.keys ∙ f.keys;
      stores = g.stores ∙ f.stores;
      editions = g.editions ∙ f.editions;
      starts_long = g.starts_long ∙ f.starts_long;
      others_long = g.others_long ∙ f.others_long;
      keys_long = g.keys_long ∙ f.keys_long;
      stores_long = g.stores_long ∙ f.stores_long;
      editions_long = g.editions_long ∙ f.editions_long;
    }

laid_long : {X : Type 0} (vs old : List X) → length old ≤ length (laid vs old)
laid_long vs old =
    let whole : length (laid vs old) ≡ length vs + (length old - length vs) = length-append vs _ ∙ ap (λ n. length vs + n) (length-drop (length vs) old) in
    omega arith

-- with the parcels in them, the tables have as much room
pub room_kept : {K : Type 0} {z : Sizes} {t u : Tables K} (ps : List Parcel) → u ≡ with_parcels ps t → Room z t → Room z u
room_kept {t} ps e room =
    let stores = laid_long (map (λ p. p.store) ps) t.stores in
    let editions = laid_long (map (λ p. p.edition) ps) t.editions in
    record {
      starts = omega (arith, room.starts, ap (λ x. length x.starts) e);
      others = omega (arith, room.others, ap (λ x. length x.others) e);
      keys = omega (arith, room.keys, ap (λ x. length x.keys) e);
      stores = omega (arith, room.stores, ap (λ x. length x.stores) e);
      editions = omega (arith, room.editions, ap (λ x. length x.editions) e);
    }
