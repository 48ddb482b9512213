-- What comes of reading and checking the text of a cents sheet. Assumes nothing.
use Rattle.std.specs.Prelude.{◌≡◌, ℕ, List, map, Ok, Err, Result}
use Rattle.faults.specs.declared.Refusal.{Refusal}
use Rattle.faults.specs.Numbers.{number}
use Rattle.ranking.specs.declared.Cents.{Cents}
use Rattle.ranking.specs.Kinds.{cents_atleast, cents_key}
use Rattle.reading.specs.declared.Sizes.{Sizes}
use Rattle.reading.specs.Listing.{Listing, Listed, key_of}
use Rattle.reading.specs.Outcome.{Tables, Read, filled, starts_of}
use Rattle.sheet.specs.Graph.{Graph}
use Rattle.sheet.specs.Check.{Passed, Refused}

-- the sheet that a listing writes
abbrev pub sheet_of : Listing → Graph Cents
sheet_of l = record {
  starts = starts_of l.sizes.parcels l.entries;
  others = map (λ x. x.other) l.entries;
  keys = map (key_of cents_key) l.entries;
  stores = map (λ p. p.store) l.parcels;
  editions = map (λ p. p.edition) l.parcels;
  limit = l.sizes.stores;
}

-- the text was read: it writes just this listing, and the tables hold its values
pub record Reads (bs : List ℕ) (before after : Tables Cents) (l : Listing) : Type 0 where
  pub read : Read cents_key 1 bs before (Ok l.sizes) after
  pub listed : Listed 1 l bs
  pub values : after ≡ filled cents_key l before

-- the text was read, and the check passes the sheet that it writes
pub record Checks (bs : List ℕ) (before after : Tables Cents) (l : Listing) : Type 0 where
  pub reads : Reads bs before after l
  pub passed : Passed cents_atleast (sheet_of l)

-- the text is refused with this number at this place: by reading, or else by the check
pub data TextRefused (bs : List ℕ) (before after : Tables Cents) : ℕ → ℕ → Type 0 where
  by_reading : {r : Refusal} {p : ℕ} → Read cents_key 1 bs before (Err (r, p)) after → TextRefused bs before after (number r) p
  by_check : {l : Listing} {k p : ℕ} → Reads bs before after l → (Passed cents_atleast (sheet_of l) → ⊥) → Refused cents_atleast (sheet_of l) k p → TextRefused bs before after k p

-- what checking a text answers: the sizes of its sheet, or why it is refused
abbrev pub Checking : List ℕ → Tables Cents → Result Sizes (Refusal × ℕ) → Tables Cents → Type 0
Checking bs before (Ok z) after = (l : Listing) × (l.sizes ≡ z) × Checks bs before after l
Checking bs before (Err f) after = TextRefused bs before after (number f.0) f.1
