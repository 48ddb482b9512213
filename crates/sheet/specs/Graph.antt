-- A sheet as lists: its rows, the entries in them, and the tests that a checked sheet passes. Assumes nothing.
use Rattle.std.specs.Prelude.{ℕ, zero, suc, ◌+◌, ◌-◌, ◌<◌, ◌≤◌, Bool, cond, not, ◌&&◌, ◌||◌, List, [], ◌∷◌, length, Some, None, Option, ◌==◌, nat_le, nat_lt, slice_index}
use Rattle.std.specs.List.{slice_get}
use Rattle.std.specs.declared.ops.Range.{Range}
use Rattle.ranking.specs.Law.{alike, lifted}

-- the tables of a sheet, as lists, and its number of stores
pub record Graph (K : Type 0) : Type 0 where
  pub starts : List ℕ
  pub others : List ℕ
  pub keys : List K
  pub stores : List ℕ
  pub editions : List ℕ
  pub limit : ℕ

-- the sheet with no parcels, no entries and one store
abbrev pub no_parcels : {K : Type 0} → Graph K
no_parcels = record { starts = 0 ∷ []; others = []; keys = []; stores = []; editions = []; limit = 1 }

-- how many parcels there are
abbrev pub parcels : {K : Type 0} → Graph K → ℕ
parcels t = length t.stores

-- how many entries there are
abbrev pub entries : {K : Type 0} → Graph K → ℕ
entries t = length t.others

-- row u begins at this place
abbrev pub row_start : {K : Type 0} → Graph K → ℕ → ℕ
row_start t u = slice_index t.starts u

-- row u ends before this place
abbrev pub row_end : {K : Type 0} → Graph K → ℕ → ℕ
row_end t u = slice_index t.starts (u + 1)

-- the parcel that the entry at place p names
abbrev pub other : {K : Type 0} → Graph K → ℕ → ℕ
other t p = slice_index t.others p

-- its key; there is none past the end
abbrev pub key : {K : Type 0} → Graph K → ℕ → Option K
key t p = slice_get t.keys p

-- place p stands in row u
pub record InRow {K : Type 0} (t : Graph K) (u p : ℕ) : Type 0 where
  pub parcel : u < parcels t
  pub from : row_start t u ≤ p
  pub to : p < row_end t u

-- the first of k places, from p on, at which v stands; p + k if there is none
abbrev pub first_place : List ℕ → ℕ → ℕ → ℕ → ℕ
first_place xs zero p v = p
first_place xs (suc k) p v = cond (slice_index xs p == v) p (first_place xs k (suc p) v)

-- the first place from p up to q at which v stands
abbrev pub place_between : List ℕ → ℕ → ℕ → ℕ → Option ℕ
place_between xs p q v = cond (nat_lt (first_place xs (q - p) p v) q) (Some (first_place xs (q - p) p v)) None

-- the first place of row u that names v; the row's end if there is none
abbrev pub place_of : {K : Type 0} → Graph K → ℕ → ℕ → ℕ
place_of t u v = first_place t.others (row_end t u - row_start t u) (row_start t u) v

-- row u as a range of places; an empty one if there is no such parcel
abbrev pub row : {K : Type 0} → Graph K → ℕ → Range ℕ
row t u = cond (nat_lt u (parcels t)) (record { start = row_start t u; end = row_end t u }) (record { start = 0; end = 0 })

-- the place of the entry at place k of row u, counted from the row's beginning; none where the row has no such entry, or the sheet no such parcel
abbrev pub place_at : {K : Type 0} → Graph K → ℕ → ℕ → Option ℕ
place_at t u k = cond (nat_lt u (parcels t) && nat_lt (row_start t u + k) (row_end t u)) (Some (row_start t u + k)) None

-- the first place of row u that names v, if u is a parcel and its row names v
abbrev pub entry_between : {K : Type 0} → Graph K → ℕ → ℕ → Option ℕ
entry_between t u v = cond (nat_lt u (parcels t)) (place_between t.others (row_start t u) (row_end t u) v) None

-- the mirror of the entry at place p of row u: the first entry for u in the row of the parcel that it names
abbrev pub mirror : {K : Type 0} → Graph K → ℕ → ℕ → ℕ
mirror t u p = place_of t (other t p) u

-- the limits of a sheet allow n parcels, e entries and s stores
abbrev pub within_limits : ℕ → ℕ → ℕ → Bool
within_limits n e s = nat_le n 1024 && (nat_le e 16384 && (nat_le 1 s && nat_le s 64))

-- the sizes are within the limits
abbrev pub sized : {K : Type 0} → Graph K → Bool
sized t = within_limits (parcels t) (entries t) t.limit

-- every table has its length
abbrev pub fitted : {K : Type 0} → Graph K → Bool
fitted t = length t.starts == parcels t + 1 && (length t.keys == entries t && length t.editions == parcels t)

-- where a holds, b does
abbrev pub implies : Bool → Bool → Bool
implies a b = not a || b

-- the rows of a sheet without parcels: they begin and end at 0, and there are no entries
abbrev pub bare_right : {K : Type 0} → Graph K → Bool
bare_right t = implies (parcels t == 0) (row_start t 0 == 0 && entries t == 0)

-- row u begins at 0 if it is the first, runs neither backwards nor past the entries, and ends with them if it is the last; the store of u is one of the stores
abbrev pub parcel_right : {K : Type 0} → Graph K → ℕ → Bool
parcel_right t u =
    implies (u == 0) (row_start t u == 0)
    && (nat_le (row_start t u) (row_end t u)
    && (nat_le (row_end t u) (entries t) && (implies (u + 1 == parcels t) (row_end t u == entries t) && nat_lt (slice_index t.stores u) t.limit)))

-- the entry at place p of row u names a parcel, not its own, above the one that the entry before it names
abbrev pub rises : {K : Type 0} → Graph K → ℕ → ℕ → Bool
rises t u p = nat_lt (other t p) (parcels t) && (not (other t p == u) && implies (nat_lt (row_start t u) p) (nat_lt (other t (p - 1)) (other t p)))

-- it has a mirror
abbrev pub mirrored : {K : Type 0} → Graph K → ℕ → ℕ → Bool
mirrored t u p = nat_lt (mirror t u p) (row_end t (other t p))

-- its key and its mirror's rank alike
abbrev pub sides_alike : {K : Type 0} → (K → K → Bool) → Graph K → ℕ → ℕ → Bool
sides_alike atleast t u p = alike (lifted atleast) (key t p) (key t (mirror t u p))

-- both parcels have one edition
abbrev pub one_edition : {K : Type 0} → Graph K → ℕ → ℕ → Bool
one_edition t u p = slice_index t.editions u == slice_index t.editions (other t p)
