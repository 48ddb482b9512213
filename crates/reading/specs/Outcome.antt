-- What comes of a reading: the first test that fails refuses it, and else the tables are filled. Assumes nothing.
use Rattle.std.specs.Prelude.{◌≡◌, ℕ, ◌+◌, ◌≤◌, ◌⊎◌, List, ◌++◌, map, length, take, drop, Ok, Err, count_by, Result, nat_lt}
use Rattle.std.specs.List.{range_with_len}
use Rattle.faults.specs.declared.Refusal.{Refusal}
use Rattle.faults.specs.declared.Refusal.TheVariants as refusal
use Rattle.sheet.specs.Graph.{Graph}
use Rattle.reading.specs.declared.Sizes.{Sizes}
use Rattle.reading.specs.declared.TablesMut.{TablesMut}
use Rattle.reading.specs.declared.rows.Parcel.{Parcel}
use Rattle.reading.specs.Listing.{Entry, Listing, key_of, Listed, FirstLine, WrongAfter}

-- the tables that are lent
pub record Tables (K : Type 0) : Type 0 where
  pub starts : List ℕ
  pub others : List ℕ
  pub keys : List K
  pub stores : List ℕ
  pub editions : List ℕ

-- the tables made of these five
abbrev pub tables : {K : Type 0} → List ℕ → List ℕ → List K → List ℕ → List ℕ → Tables K
tables starts others keys stores editions = record { starts = starts; others = others; keys = keys; stores = stores; editions = editions }

-- what the lent tables hold
abbrev pub lent : {K : Type 0} → TablesMut K → Tables K
lent t = tables t.starts.now t.others.now t.keys.now t.stores.now t.editions.now

-- the same slices are lent, each as long as it was, whatever they hold
pub record SameSlices {K : Type 0} (was is : TablesMut K) : Type 0 where
  pub starts : is.starts.ghost_name ≡ was.starts.ghost_name
  pub others : is.others.ghost_name ≡ was.others.ghost_name
  pub keys : is.keys.ghost_name ≡ was.keys.ghost_name
  pub stores : is.stores.ghost_name ≡ was.stores.ghost_name
  pub editions : is.editions.ghost_name ≡ was.editions.ghost_name
  pub starts_long : length is.starts.now ≡ length was.starts.now
  pub others_long : length is.others.now ≡ length was.others.now
  pub keys_long : length is.keys.now ≡ length was.keys.now
  pub stores_long : length is.stores.now ≡ length was.stores.now
  pub editions_long : length is.editions.now ≡ length was.editions.now

-- sizes that are within the limits
pub record Within (z : Sizes) : Type 0 where
  pub parcels : z.parcels ≤ 1024
  pub entries : z.entries ≤ 16384
  pub some_store : 1 ≤ z.stores
  pub stores : z.stores ≤ 64

-- no table is too short for the sizes
pub record Room {K : Type 0} (z : Sizes) (t : Tables K) : Type 0 where
  pub starts : z.parcels + 1 ≤ length t.starts
  pub others : z.entries ≤ length t.others
  pub keys : z.entries ≤ length t.keys
  pub stores : z.parcels ≤ length t.stores
  pub editions : z.parcels ≤ length t.editions

-- the sheet of these sizes in the first places of the tables
abbrev pub first_places : {K : Type 0} → Sizes → Tables K → Graph K
first_places z t = record {
  starts = take (z.parcels + 1) t.starts;
  others = take z.entries t.others;
  keys = take z.entries t.keys;
  stores = take z.parcels t.stores;
  editions = take z.parcels t.editions;
  limit = z.stores;
}

-- the values in the first places, and in the others what stood there
abbrev pub laid : {X : Type 0} → List X → List X → List X
laid vs old = vs ++ drop (length vs) old

-- where each row starts: after the entries of lower rows; and last where all rows end
abbrev pub starts_of : ℕ → List Entry → List ℕ
starts_of parcels xs = map (λ u. count_by (λ x. nat_lt x.row u) xs) (range_with_len 0 (parcels + 1))

-- the tables with the parcels in them
abbrev pub with_parcels : {K : Type 0} → List Parcel → Tables K → Tables K
with_parcels ps t = record t { stores = laid (map (λ p. p.store) ps) t.stores; editions = laid (map (λ p. p.edition) ps) t.editions }

-- the tables with the entries of so many parcels in them
abbrev pub with_entries : {K : Type 0} → (ℕ → ℕ → K) → ℕ → List Entry → Tables K → Tables K
with_entries made parcels xs t =
    record t { starts = laid (starts_of parcels xs) t.starts; others = laid (map (λ x. x.other) xs) t.others; keys = laid (map (key_of made) xs) t.keys }

-- the tables with the values of the listing in them
abbrev pub filled : {K : Type 0} → (ℕ → ℕ → K) → Listing → Tables K → Tables K
filled made l t = with_entries made l.sizes.parcels l.entries (with_parcels l.parcels t)

-- a test that is tried before what comes after it: refused where it fails
abbrev pub Tried : Type 0 → Type 0 → Type 0 → Type 0
Tried test refused after = ((test → ⊥) × refused) ⊎ (test × after)

module _ {K : Type 0} (made : ℕ → ℕ → K) (count : ℕ) (bs : List ℕ) (before : Tables K) (r : Result Sizes (Refusal × ℕ)) (after : Tables K) where
  -- refused so at this place, and no table changed
  abbrev pub Refused : Refusal → ℕ → Type 0
  Refused wrong place = (r ≡ Err (wrong, place)) × (after ≡ before)

  -- the other lines: refused at the first that is wrong, or all read
  abbrev pub OtherLines : Sizes → Type 0
  OtherLines z = ((k : ℕ) × WrongAfter count z k bs × Refused refusal.Line (k + 1)) ⊎ ((l : Listing) × Listed count l bs × (l.sizes ≡ z) × (r ≡ Ok z) × (after ≡ filled made l before))

  -- in the order tried: the first line, the sizes, the room, the other lines
  abbrev pub Outcome : Type 0
  Outcome = (((z : Sizes) → FirstLine z bs → ⊥) × Refused refusal.Line 1) ⊎ ((z : Sizes) × FirstLine z bs × Tried (Within z) (Refused refusal.Size 0) (Tried (Room z before) (Refused refusal.Room 0) (OtherLines z)))

-- what came is the outcome, and no other answer and no other tables would be one
pub record Read {K : Type 0} (made : ℕ → ℕ → K) (count : ℕ) (bs : List ℕ) (before : Tables K) (r : Result Sizes (Refusal × ℕ)) (after : Tables K) : Type 0 where
  pub outcome : Outcome made count bs before r after
  pub only : (q : Result Sizes (Refusal × ℕ)) (t : Tables K) → Outcome made count bs before q t → (q ≡ r) × (t ≡ after)
