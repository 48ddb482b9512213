-- The values that the text of a sheet writes, and its lines. Assumes nothing.
use Rattle.std.specs.Prelude.{◌≡◌, ℕ, ◌+◌, ◌<◌, ◌≤◌, List, [], ◌∷◌, ◌++◌, map, length, slice_index}
use Rattle.std.specs.List.{AllByRecursion}
use Rattle.text.specs.Rows.{Begins}
use Rattle.reading.specs.declared.Sizes.{Sizes}
use Rattle.reading.specs.declared.rows.Parcel.{Parcel}

-- an entry: the parcel in whose row it stands, the other parcel, and the fields of its key
pub record Entry : Type 0 where
  pub row : ℕ
  pub other : ℕ
  pub fields : List ℕ

-- the values of a text, as far as its lines go
pub record Listing : Type 0 where
  pub sizes : Sizes
  pub parcels : List Parcel
  pub entries : List Entry

-- the first line has the three sizes
abbrev pub sizes_row : Sizes → List ℕ
sizes_row z = z.parcels ∷ z.entries ∷ z.stores ∷ []

-- then a line for each parcel, with its number
abbrev pub parcel_row : ℕ → Parcel → List ℕ
parcel_row i p = i ∷ p.store ∷ p.edition ∷ []

-- the lines of parcels that are numbered from i
abbrev pub parcel_rows : ℕ → List Parcel → List (List ℕ)
parcel_rows i [] = []
parcel_rows i (p ∷ ps) = parcel_row i p ∷ parcel_rows (i + 1) ps

-- and a line for each entry
abbrev pub entry_row : Entry → List ℕ
entry_row x = x.row ∷ x.other ∷ x.fields

-- the key of an entry; a second field that is not there counts as 0
abbrev pub key_of : {K : Type 0} → (ℕ → ℕ → K) → Entry → K
key_of made x = made (slice_index x.fields 0) (slice_index x.fields 1)

-- all lines that are there, parcels numbered from 0
abbrev pub rows : Listing → List (List ℕ)
rows l = sizes_row l.sizes ∷ (parcel_rows 0 l.parcels ++ map entry_row l.entries)

-- no number is below the one before it
abbrev pub NeverFalls : List ℕ → Type 0
NeverFalls [] = Unit {0}
NeverFalls (x ∷ []) = Unit {0}
NeverFalls (x ∷ y ∷ ys) = (x ≤ y) × NeverFalls (y ∷ ys)

-- an edition has 16 bits
abbrev pub FitParcel : Parcel → Type 0
FitParcel p = p.edition ≤ 65535

-- an entry stands in the row of a parcel, and its key has as many fields as the kind of key says
pub record FitEntry (count parcels : ℕ) (x : Entry) : Type 0 where
  pub known : x.row < parcels
  pub key : length x.fields ≡ count

-- the lines that are there are right: no more than the sizes say, and entries after all parcels, in the order of their rows
pub record Right (count : ℕ) (l : Listing) : Type 0 where
  pub parcels : length l.parcels ≤ l.sizes.parcels
  pub entries : length l.entries ≤ l.sizes.entries
  pub after : 0 < length l.entries → length l.parcels ≡ l.sizes.parcels
  pub fit_parcels : AllByRecursion FitParcel l.parcels
  pub fit_entries : AllByRecursion (FitEntry count l.sizes.parcels) l.entries
  pub in_order : NeverFalls (map (λ x. x.row) l.entries)

-- the text writes the whole listing, and no more
pub record Listed (count : ℕ) (l : Listing) (bs : List ℕ) : Type 0 where
  pub right : Right count l
  pub all_parcels : length l.parcels ≡ l.sizes.parcels
  pub all_entries : length l.entries ≡ l.sizes.entries
  pub written : Begins (rows l) bs []

-- the first line of the text has these sizes
abbrev pub FirstLine : Sizes → List ℕ → Type 0
FirstLine z bs = (rest : List ℕ) × Begins (sizes_row z ∷ []) bs rest

-- the first k lines of the text are right for these sizes
pub record RightLines (count : ℕ) (z : Sizes) (k : ℕ) (bs : List ℕ) : Type 0 where
  pub lines : Listing
  pub rest : List ℕ
  pub right : Right count lines
  pub sizes : lines.sizes ≡ z
  pub so_many : 1 + length lines.parcels + length lines.entries ≡ k
  pub written : Begins (rows lines) bs rest

-- after k right lines, what comes next is wrong: a line that is not right, or missing, or one too many
pub record WrongAfter (count : ℕ) (z : Sizes) (k : ℕ) (bs : List ℕ) : Type 0 where
  pub before : RightLines count z k bs
  pub next : RightLines count z (k + 1) bs → ⊥
  pub unlisted : (l : Listing) → l.sizes ≡ z → Listed count l bs → ⊥
