-- What is read of one entry line. Assumes nothing.
use Rattle.std.specs.Prelude.{◌≡◌, ℕ, ◌≤◌, List, [], ◌∷◌, length, slice_index}
use Rattle.text.specs.Rows.{Begins}
use Rattle.reading.specs.declared.rows.EntryLine.{EntryLine}
use Rattle.reading.specs.Listing.{Entry, entry_row, key_of, FitEntry}

-- the four numbers of an entry whose key has so many fields, where a second one that is not there counts as 0
pub record EntryNumbers (count : ℕ) (was is vs : List ℕ) : Type 0 where
  pub entry : Entry
  pub key : length entry.fields ≡ count
  pub numbers : vs ≡ entry.row ∷ entry.other ∷ slice_index entry.fields 0 ∷ slice_index entry.fields 1 ∷ []
  pub written : Begins (entry_row entry ∷ []) was is

-- the entry in the line at the front of `was`: one of a row that is there, and not below the row `low`
pub record ReadEntry {K : Type 0} (made : ℕ → ℕ → K) (count parcels low : ℕ) (was is : List ℕ) (line : EntryLine K) : Type 0 where
  pub entry : Entry
  pub fit : FitEntry count parcels entry
  pub in_order : low ≤ entry.row
  pub row : line.row ≡ entry.row
  pub other : line.other ≡ entry.other
  pub key : line.key ≡ key_of made entry
  pub written : Begins (entry_row entry ∷ []) was is
