-- A small listing, worked out. Assumes nothing.
use Rattle.std.specs.Prelude.{◌≡◌, ℕ, [], ◌∷◌}
use Rattle.reading.specs.Listing.{Entry, Listing, rows}
use Rattle.reading.specs.Outcome.{laid, starts_of}

-- the entry of row u for v, at so many cents
abbrev entry : ℕ → ℕ → ℕ → Entry
entry u v cents = record { row = u; other = v; fields = cents ∷ [] }

-- two parcels of store 0, and one entry in the row of the second
abbrev small : Listing
small =
    record {
      sizes = record { parcels = 2; entries = 1; stores = 1 };
      parcels = record { store = 0; edition = 21 } ∷ record { store = 0; edition = 22 } ∷ [];
      entries = entry 1 0 5 ∷ [];
    }

-- its lines; the starts of three rows, of which the middle one is empty; a table that is longer than needed
pub record Examples : Type 0 where
  pub lines : rows small ≡ (2 ∷ 1 ∷ 1 ∷ []) ∷ (0 ∷ 0 ∷ 21 ∷ []) ∷ (1 ∷ 0 ∷ 22 ∷ []) ∷ (1 ∷ 0 ∷ 5 ∷ []) ∷ []
  pub starts : starts_of 3 (entry 0 1 5 ∷ entry 2 0 5 ∷ entry 2 1 9 ∷ []) ≡ 0 ∷ 1 ∷ 1 ∷ 3 ∷ []
  pub longer : laid {X = ℕ} (5 ∷ 6 ∷ []) (9 ∷ 9 ∷ 9 ∷ []) ≡ 5 ∷ 6 ∷ 9 ∷ []
