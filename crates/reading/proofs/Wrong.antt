-- The first wrong line of a text, and a text that is right as a whole. Assumes nothing.
use Rattle.std.proofs.Common.{◌≡◌, ℕ, ◌+◌, ◌<◌, ◌≤◌, List, [], ◌∷◌, ◌++◌, map, length, sym, refl, ap, subst, ⊎_elim, arith}
use Rattle.std.specs.List.{AllByRecursion}
use Rattle.std.proofs.lemmas.List.{length-map}
use Rattle.std.proofs.lemmas.Bool.{cases_lt}
use Rattle.text.specs.Rows.{Begins, none}
use Rattle.text.proofs.OneWay.{begins_append, one_row}
use Rattle.reading.specs.declared.Sizes.{Sizes}
use Rattle.reading.specs.declared.rows.Parcel.{Parcel}
use Rattle.reading.specs.Listing.{Entry, Listing, sizes_row, parcel_rows, entry_row, rows, FitEntry, Right, Listed, RightLines, WrongAfter}
use Rattle.reading.specs.Passing.{Parcels, NoParcel, Entries, NoEntry}
use Rattle.reading.proofs.Next.{same_end, begins_part, length_parcel_rows, next_parcel, next_entry}

-- what is written of a listing after its first line
pub after_first : {z : Sizes} {bs a c : List ℕ} (l : Listing) → Begins (sizes_row z ∷ []) bs a → Begins (rows l) bs c → Begins (parcel_rows 0 l.parcels ++ map entry_row l.entries) a c
after_first {c} l first b =
    let others = parcel_rows 0 l.parcels ++ map entry_row l.entries in
    let cut = begins_part (sizes_row l.sizes ∷ []) others b in
    subst (λ x. Begins others x c) (sym (one_row first cut.1).1) cut.2

module _ {count : ℕ} {z : Sizes} {bs a : List ℕ} (first : Begins (sizes_row z ∷ []) bs a) where
  -- a listing with these parcels and entries, as far as they go
  pub so_far : {b c : List ℕ} (ps : List Parcel) (xs : List Entry) → Parcels ps a b → Entries count z.parcels xs b c → length ps ≤ z.parcels → length xs ≤ z.entries → (0 < length xs → length ps ≡ z.parcels) → (k : ℕ) → 1 + length ps + length xs ≡ k → RightLines count z k bs
  so_far {c} ps xs p e hp he ho k so =
      record {
        lines = record { sizes = z; parcels = ps; entries = xs };
        rest = c;
        right = record { parcels = hp; entries = he; after = ho; fit_parcels = p.fit; fit_entries = e.fit; in_order = e.in_order };
        sizes = refl;
        so_many = so;
        written = begins_append first (begins_append p.written e.written);
      }

  pub nothing : {b : List ℕ} → Entries count z.parcels [] b b
  nothing = record { fit = tt; in_order = tt; written = none refl }

  -- no more parcels stand there where no line of a parcel comes next
  no_more_parcels : (k : ℕ) → NoParcel k a → (l : Listing) {rest : List ℕ} → Right count l → Begins (rows l) bs rest → k < length l.parcels → ⊥
  no_more_parcels k n l r b h =
      let next = next_parcel l.parcels (map entry_row l.entries) n.parcels r.fit_parcels (after_first l first b) k n.so_many h in
      n.wrong next.0 next.1 next.2 next.3

  pub wrong_parcel : (k : ℕ) → k < z.parcels → NoParcel k a → WrongAfter count z (k + 1) bs
  wrong_parcel k less n =
      record {
        before = so_far n.passed [] n.parcels nothing (omega (arith, n.so_many)) (omega arith) (λ h. absurd (omega arith)) (k + 1) (omega (arith, n.so_many));
        next = λ m.
            let l = m.lines in
            let size = ap (λ s. s.parcels) m.sizes in
            no_more_parcels k n l m.right m.written (⊎_elim (λ some. omega (arith, m.right.after some)) (λ none. omega (arith, m.so_many)) (cases_lt 0 (length l.entries)));
        unlisted = λ l e m. let size = ap (λ s. s.parcels) e in no_more_parcels k n l m.right m.written (omega (arith, m.all_parcels));
      }

  module _ {b : List ℕ} (ps : List Parcel) (passed : Parcels ps a b) (all : length ps ≡ z.parcels) where
    -- the entries of a listing stand where all parcels were passed
    pub entries_there : (l : Listing) {rest : List ℕ} → Right count l → l.sizes ≡ z → Begins (rows l) bs rest → length l.parcels ≡ z.parcels → Entries count z.parcels l.entries b rest
    entries_there l {rest} r e w h =
        let cut = begins_part (parcel_rows 0 l.parcels) (map entry_row l.entries) (after_first l first w) in
        let long : length (parcel_rows 0 ps) ≡ length (parcel_rows 0 l.parcels) = omega (arith, length_parcel_rows 0 ps, length_parcel_rows 0 l.parcels) in
        let here = (same_end passed.written cut.1 long).1 in
        record {
          fit = subst (λ s. AllByRecursion (FitEntry count s.parcels) l.entries) e r.fit_entries;
          in_order = r.in_order;
          written = subst (λ x. Begins (map entry_row l.entries) x rest) (sym here) cut.2;
        }

    no_more_entries : (k : ℕ) → NoEntry count z.parcels k b → (l : Listing) {rest : List ℕ} → Right count l → l.sizes ≡ z → Begins (rows l) bs rest → length l.parcels ≡ z.parcels → k < length l.entries → ⊥
    no_more_entries k n l r e w h less =
        let next = next_entry l.entries n.entries (entries_there l r e w h) (omega (arith, n.so_many)) in
        n.wrong next.0 next.1 next.2 next.3 next.4

    pub wrong_entry : (k : ℕ) → k < z.entries → NoEntry count z.parcels k b → WrongAfter count z (z.parcels + k + 1) bs
    wrong_entry k less n =
        record {
          before = so_far ps n.passed passed n.entries (omega arith) (omega (arith, n.so_many)) (λ _. all) (z.parcels + k + 1) (omega (arith, n.so_many));
          next = λ m.
              let l = m.lines in
              let size = ap (λ s. s.parcels) m.sizes in
              let few = m.right.parcels in
              let some : 0 < length l.entries = omega (arith, m.so_many) in
              let full = m.right.after some in
              no_more_entries k n l m.right m.sizes m.written (omega arith) (omega (arith, m.so_many));
          unlisted = λ l e m.
              let size = ap (λ s. s.parcels) e in
              let sizes = ap (λ s. s.entries) e in
              no_more_entries k n l m.right e m.written (omega (arith, m.all_parcels)) (omega (arith, m.all_entries));
        }

    module _ {c : List ℕ} (xs : List Entry) (entries : Entries count z.parcels xs b c) (all-too : length xs ≡ z.entries) where
      pub too_long : (c ≡ [] → ⊥) → WrongAfter count z (z.parcels + z.entries + 1) bs
      too_long more =
          record {
            before = so_far ps xs passed entries (omega arith) (omega arith) (λ _. all) (z.parcels + z.entries + 1) (omega arith);
            next = λ m.
                let size = ap (λ s. s.parcels) m.sizes in
                let sizes = ap (λ s. s.entries) m.sizes in
                omega (arith, m.right.parcels, m.right.entries, m.so_many);
            unlisted = λ l e m.
                let size = ap (λ s. s.parcels) e in
                let sizes = ap (λ s. s.entries) e in
                let there = entries_there l m.right e m.written (omega (arith, m.all_parcels)) in
                let long : length (map entry_row xs) ≡ length (map entry_row l.entries) = omega (arith, length-map xs entry_row, length-map l.entries entry_row, m.all_entries) in
                more (same_end entries.written there.written long).1;
          }

      pub listed : c ≡ [] → Listed count (record { sizes = z; parcels = ps; entries = xs }) bs
      listed e =
          record {
            right = record { parcels = omega arith; entries = omega arith; after = λ _. all; fit_parcels = passed.fit; fit_entries = entries.fit; in_order = entries.in_order };
            all_parcels = all;
            all_entries = all-too;
            written = subst (λ x. Begins (rows (record { sizes = z; parcels = ps; entries = xs })) bs x) e (begins_append first (begins_append passed.written entries.written));
          }
