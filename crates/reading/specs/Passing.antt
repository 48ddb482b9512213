-- Lines that are passed one by one, up to the first that is wrong. Assumes nothing.
use Rattle.std.specs.Prelude.{◌≡◌, ℕ, List, [], ◌∷◌, ◌++◌, map, length}
use Rattle.std.specs.List.{AllByRecursion}
use Rattle.text.specs.Rows.{Begins}
use Rattle.reading.specs.declared.Sizes.{Sizes}
use Rattle.reading.specs.declared.rows.Parcel.{Parcel}
use Rattle.reading.specs.Listing.{Entry, parcel_row, parcel_rows, entry_row, FitParcel, FitEntry, NeverFalls}

-- the lines of these parcels stand at the front of `was`, and `is` follows
pub record Parcels (ps : List Parcel) (was is : List ℕ) : Type 0 where
  pub fit : AllByRecursion FitParcel ps
  pub written : Begins (parcel_rows 0 ps) was is

-- after the lines of k parcels comes no line of a parcel
pub record NoParcel (k : ℕ) (was : List ℕ) : Type 0 where
  pub passed : List Parcel
  pub rest : List ℕ
  pub parcels : Parcels passed was rest
  pub so_many : length passed ≡ k
  pub wrong : (p : Parcel) (after : List ℕ) → FitParcel p → Begins (parcel_row k p ∷ []) rest after → ⊥

-- the lines of these entries stand at the front of `was`, and `is` follows
pub record Entries (count parcels : ℕ) (xs : List Entry) (was is : List ℕ) : Type 0 where
  pub fit : AllByRecursion (FitEntry count parcels) xs
  pub in_order : NeverFalls (map (λ x. x.row) xs)
  pub written : Begins (map entry_row xs) was is

-- after the lines of k entries comes no line of an entry that may follow them
pub record NoEntry (count parcels k : ℕ) (was : List ℕ) : Type 0 where
  pub passed : List Entry
  pub rest : List ℕ
  pub entries : Entries count parcels passed was rest
  pub so_many : length passed ≡ k
  pub wrong : (x : Entry) (after : List ℕ) → FitEntry count parcels x → NeverFalls (map (λ y. y.row) (passed ++ x ∷ [])) → Begins (entry_row x ∷ []) rest after → ⊥

-- all lines of a listing of these sizes after its first, and nothing more
pub record AllPassed (count : ℕ) (z : Sizes) (bs : List ℕ) : Type 0 where
  pub passed_parcels : List Parcel
  pub passed_entries : List Entry
  pub between : List ℕ
  pub parcels : Parcels passed_parcels bs between
  pub entries : Entries count z.parcels passed_entries between []
  pub all_parcels : length passed_parcels ≡ z.parcels
  pub all_entries : length passed_entries ≡ z.entries
