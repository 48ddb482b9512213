-- A text that was read, and the sheet that it writes. Assumes nothing.
use Rattle.std.proofs.Common.{◌≡◌, ℕ, ◌+◌, ◌≤◌, List, length, drop, length-append, Ok, Err, Result, sym, ap, ◌∙◌, subst, inl, inr, arith}
use Rattle.std.proofs.lemmas.List.FromFn.{length-map-range_with_len}
use Rattle.std.proofs.lemmas.List.{length-map, take_at}
use Rattle.faults.specs.declared.Refusal.{Refusal}
use Rattle.ranking.specs.declared.Cents.{Cents}
use Rattle.ranking.specs.Kinds.{cents_atleast, cents_key}
use Rattle.reading.specs.declared.Sizes.{Sizes}
use Rattle.reading.specs.Listing.{Listing, Listed}
use Rattle.reading.specs.Outcome.{first_places, Tables, Outcome, Read, Room, filled, laid}
use Rattle.sheet.specs.Graph.{Graph, parcels, entries}
use Rattle.sheet.specs.Check.{Passed, Refused}
use Rattle.sheet_text.specs.Checking.{sheet_of, Reads, Checks, TextRefused, by_check}

-- the first places of tables with a listing's values in them have its sheet
first_filled : {bs : List ℕ} (l : Listing) (t : Tables Cents) → Listed 1 l bs → first_places l.sizes (filled cents_key l t) ≡ sheet_of l
first_filled l t h =
    let starts = take_at (sheet_of l).starts _ (l.sizes.parcels + 1) (length-map-range_with_len _ 0 (l.sizes.parcels + 1)) in
    let others = take_at (sheet_of l).others _ l.sizes.entries (length-map l.entries _ ∙ h.all_entries) in
    let keys = take_at (sheet_of l).keys _ l.sizes.entries (length-map l.entries _ ∙ h.all_entries) in
    let stores = take_at (sheet_of l).stores _ l.sizes.parcels (length-map l.parcels _ ∙ h.all_parcels) in
    let editions = take_at (sheet_of l).editions _ l.sizes.parcels (length-map l.parcels _ ∙ h.all_parcels) in
    λ i. record { starts = starts i; others = others i; keys = keys i; stores = stores i; editions = editions i; limit = l.sizes.stores }

-- a text that is not refused was read: its sheet stands in the first places of the tables
pub record Found (bs : List ℕ) (before after : Tables Cents) (z : Sizes) : Type 0 where
  pub listing : Listing
  pub sizes : listing.sizes ≡ z
  pub reads : Reads bs before after listing
  pub first : first_places z after ≡ sheet_of listing
  pub parcels_many : parcels (sheet_of listing) ≡ z.parcels
  pub entries_many : entries (sheet_of listing) ≡ z.entries

pub never : {A : Type 0} {z : Sizes} {f : Refusal × ℕ} → ◌≡◌ {A = Result Sizes (Refusal × ℕ)} (Ok z) (Err f) → A
never e = let wrong : ◌≡◌ {A = ℕ} 0 1 = cc in absurd (omega arith)

found_by : {bs : List ℕ} {before after : Tables Cents} {z : Sizes} → Read cents_key 1 bs before (Ok z) after → Outcome cents_key 1 bs before (Ok z) after → Found bs before after z
found_by h (inl (_, (e, _))) = never e
found_by h (inr (_, _, inl (_, (e, _)))) = never e
found_by h (inr (_, _, inr (_, inl (_, (e, _))))) = never e
found_by h (inr (_, _, inr (_, inr (_, inl (_, _, (e, _)))))) = never e
found_by {bs} {before} {after} {z} h (inr (y, _, inr (_, inr (_, inr (l, listed, sizes, e, values))))) =
    let same : l.sizes ≡ z = cc in
    record {
      listing = l;
      sizes = same;
      reads = record { read = subst (λ (s : Sizes). Read cents_key 1 bs before (Ok s) after) (sym same) h; listed = listed; values = values };
      first = ap (λ (s : Sizes). first_places s after) (sym same) ∙ ap (first_places l.sizes) values ∙ first_filled l before listed;
      parcels_many = length-map l.parcels _ ∙ listed.all_parcels ∙ ap (λ (s : Sizes). s.parcels) same;
      entries_many = length-map l.entries _ ∙ listed.all_entries ∙ ap (λ (s : Sizes). s.entries) same;
    }

pub found : {bs : List ℕ} {before after : Tables Cents} {z : Sizes} → Read cents_key 1 bs before (Ok z) after → Found bs before after z
found h = found_by h h.outcome

laid_reaches : {X : Type 0} (vs old : List X) (n : ℕ) → length vs ≡ n → n ≤ length (laid vs old)
laid_reaches vs old n is = omega (arith, length-append vs (drop (length vs) old), is)

-- tables that hold what was read have room for it
pub room_after : {bs : List ℕ} {before after : Tables Cents} {z : Sizes} → Found bs before after z → Room z after
room_after {before} {after} {z} text =
    let l = text.listing in
    let n = length-map l.parcels _ ∙ text.reads.listed.all_parcels in
    let e = length-map l.entries _ ∙ text.reads.listed.all_entries in
    subst (λ (s : Sizes). Room s after) text.sizes
    (subst (Room l.sizes) (sym text.reads.values)
    (record {
      starts = laid_reaches _ before.starts _ (length-map-range_with_len _ 0 (l.sizes.parcels + 1));
      others = laid_reaches _ before.others _ e;
      keys = laid_reaches _ before.keys _ (length-map l.entries _ ∙ text.reads.listed.all_entries);
      stores = laid_reaches _ before.stores _ n;
      editions = laid_reaches _ before.editions _ (length-map l.parcels _ ∙ text.reads.listed.all_parcels);
    }))

-- what the check says of the first places, it says of the sheet
module _ {bs : List ℕ} {before after : Tables Cents} {z : Sizes} {t : Graph Cents} (text : Found bs before after z) (is : t ≡ first_places z after) where
  pub checks_by : Passed cents_atleast t → Checks bs before after text.listing
  checks_by passed = record { reads = text.reads; passed = subst (Passed cents_atleast) (is ∙ text.first) passed }

  pub refused_by : {k p : ℕ} → Refused cents_atleast t k p → (Passed cents_atleast t → ⊥) → TextRefused bs before after k p
  refused_by {k} {p} refused not-passed =
      by_check text.reads
      (subst (λ (g : Graph Cents). Passed cents_atleast g → ⊥) (is ∙ text.first) not-passed)
      (subst (λ (g : Graph Cents). Refused cents_atleast g k p) (is ∙ text.first) refused)
