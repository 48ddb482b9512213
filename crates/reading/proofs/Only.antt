-- A reading has one outcome only. Assumes nothing.
use Rattle.std.proofs.Common.{◌≡◌, ℕ, ◌+◌, ◌-◌, ◌≤◌, List, [], ◌∷◌, map, length, get_or, take, drop, Err, Result, sym, refl, ap, ◌∙◌, subst, inl, inr, ⊎_elim, arith, take-append-drop}
use Rattle.std.specs.List.{AllByRecursion}
use Rattle.std.proofs.ByRecursion.{All-take}
use Rattle.std.proofs.lemmas.List.{length-map, length-take-le, map-append}
use Rattle.std.proofs.lemmas.Bool.{cases_lt, cases_order}
use Rattle.text.specs.Rows.{Begins}
use Rattle.text.proofs.OneWay.{one_row}
use Rattle.faults.specs.declared.Refusal.{Refusal}
use Rattle.faults.specs.declared.Refusal.TheVariants as refusal
use Rattle.reading.specs.declared.Sizes.{Sizes}
use Rattle.reading.specs.declared.rows.Parcel.{Parcel}
use Rattle.reading.specs.Listing.{Entry, Listing, sizes_row, parcel_rows, entry_row, FitParcel, FitEntry, NeverFalls, Listed, FirstLine, RightLines, WrongAfter}
use Rattle.reading.specs.Outcome.{Tables, Within, Room, filled, Tried, Refused, OtherLines, Outcome, Read}
use Rattle.reading.proofs.Next.{same_end, begins_part, length_parcel_rows, falls_front}
use Rattle.reading.proofs.Passed.{parcel_rows_append, row_of}
use Rattle.reading.proofs.Wrong.{so_far, nothing, after_first}

first_one : {z y : Sizes} {bs : List ℕ} → FirstLine z bs → FirstLine y bs → y ≡ z
first_one f g =
    let same = (one_row f.1 g.1).0 in
    let p = ap (λ l. get_or l 0 0) same in
    let e = ap (λ l. get_or l 1 0) same in
    let s = ap (λ l. get_or l 2 0) same in
    λ i. record { parcels = p i; entries = e i; stores = s i }

-- the parcels and the entries show in their lines
parcels_shown : (i : ℕ) (ps : List Parcel) → map (λ l. record { store = get_or l 1 0; edition = get_or l 2 0 }) (parcel_rows i ps) ≡ ps
parcels_shown i [] = refl
parcels_shown i (p ∷ ps) = ap (λ l. p ∷ l) (parcels_shown (i + 1) ps)

abbrev entry_in : List ℕ → Entry
entry_in l = record { row = get_or l 0 0; other = get_or l 1 0; fields = drop 2 l }

entries_shown : (xs : List Entry) → map entry_in (map entry_row xs) ≡ xs
entries_shown [] = refl
entries_shown (x ∷ xs) = ap (λ l. x ∷ l) (entries_shown xs)

-- one text lists one listing
listed_one : {count : ℕ} {bs : List ℕ} (l m : Listing) → Listed count l bs → Listed count m bs → m.sizes ≡ l.sizes → m ≡ l
listed_one {count} {bs} l m h k e =
    let n = ap (λ s. s.parcels) e in
    let z = ap (λ s. s.entries) e in
    let first = begins_part (sizes_row l.sizes ∷ []) _ h.written in
    let cut = begins_part (parcel_rows 0 l.parcels) _ first.2 in
    let other = begins_part (parcel_rows 0 m.parcels) _ (after_first m first.1 k.written) in
    let parcels-long : length (parcel_rows 0 l.parcels) ≡ length (parcel_rows 0 m.parcels) = omega (arith, length_parcel_rows 0 l.parcels, length_parcel_rows 0 m.parcels, h.all_parcels, k.all_parcels) in
    let entries-long : length (map entry_row l.entries) ≡ length (map entry_row m.entries) = omega (arith, length-map l.entries entry_row, length-map m.entries entry_row, h.all_entries, k.all_entries) in
    let ps = same_end cut.1 other.1 parcels-long in
    let xs = same_end cut.2 (subst (λ b. Begins (map entry_row m.entries) b []) (sym ps.1) other.2) entries-long in
    let parcels : m.parcels ≡ l.parcels = sym (parcels_shown 0 m.parcels) ∙ ap (map _) ps.0 ∙ parcels_shown 0 l.parcels in
    let entries : m.entries ≡ l.entries = sym (entries_shown m.entries) ∙ ap (map entry_in) xs.0 ∙ entries_shown l.entries in
    λ i. record { sizes = e i; parcels = parcels i; entries = entries i }

-- fewer lines of right ones are right
shorter : {count k : ℕ} {z : Sizes} {bs : List ℕ} (j : ℕ) → RightLines count z k bs → 1 ≤ j → j ≤ k → RightLines count z j bs
shorter {count} {k} {z} {bs} j r some less =
    let l = r.lines in
    let ps = l.parcels in
    let xs = l.entries in
    let n = ap (λ s. s.parcels) r.sizes in
    let e = ap (λ s. s.entries) r.sizes in
    let first = begins_part (sizes_row l.sizes ∷ []) _ r.written in
    let head = subst (λ s. Begins (sizes_row s ∷ []) bs first.0) r.sizes first.1 in
    let cut = begins_part (parcel_rows 0 ps) _ first.2 in
    ⊎_elim
    (λ more.
    let m = j - 1 - length ps in
    let front = begins_part (map entry_row (take m xs)) (map entry_row (drop m xs)) (subst (λ q. Begins q cut.0 r.rest) (ap (map entry_row) (sym (take-append-drop m xs)) ∙ map-append entry_row (take m xs) (drop m xs)) cut.2) in
    let long : length (take m xs) ≡ m = length-take-le m xs (omega (arith, r.so_many)) in
    so_far head ps (take m xs)
    (record { fit = r.right.fit_parcels; written = cut.1 })
    (record {
      fit = All-take (FitEntry count z.parcels) m xs (subst (λ s. AllByRecursion (FitEntry count s.parcels) xs) r.sizes r.right.fit_entries);
      in_order = falls_front (map row_of (take m xs)) (map row_of (drop m xs)) (subst NeverFalls (ap (map row_of) (sym (take-append-drop m xs)) ∙ map-append row_of (take m xs) (drop m xs)) r.right.in_order);
      written = front.1;
    })
    (omega (arith, r.right.parcels)) (omega (arith, r.right.entries, r.so_many)) (λ h. omega (arith, r.right.after (omega (arith, r.so_many)))) j (omega arith))
    (λ few.
    let m = j - 1 in
    let front = begins_part (parcel_rows 0 (take m ps)) _ (subst (λ q. Begins q first.0 cut.0) (ap (parcel_rows 0) (sym (take-append-drop m ps)) ∙ parcel_rows_append 0 (take m ps) (drop m ps)) cut.1) in
    let long : length (take m ps) ≡ m = length-take-le m ps (omega arith) in
    so_far head (take m ps) []
    (record { fit = All-take FitParcel m ps r.right.fit_parcels; written = front.1 })
    (nothing head)
    (omega (arith, r.right.parcels)) (omega arith) (λ h. absurd (omega arith)) j (omega arith))
    (cases_lt (1 + length ps) j)

-- one line is the first wrong one
wrong_one : {count j k : ℕ} {z : Sizes} {bs : List ℕ} → WrongAfter count z j bs → WrongAfter count z k bs → j ≡ k
wrong_one {count} {j} {k} a b =
    ⊎_elim (λ e. e)
    (⊎_elim (λ l. absurd (a.next (shorter (j + 1) b.before (omega arith) (omega arith)))) (λ l. absurd (b.next (shorter (k + 1) a.before (omega arith) (omega arith)))))
    (cases_order j k)

tried_one : {T A B C D X : Type 0} → Tried T A B → Tried T C D → (A → C → X) → (T → B → D → X) → X
tried_one (inl a) (inl c) f g = f a.1 c.1
tried_one (inl a) (inr d) f g = absurd (a.0 d.0)
tried_one (inr b) (inl c) f g = absurd (c.0 b.0)
tried_one (inr b) (inr d) f g = g b.0 b.1 d.1

module _ {K : Type 0} (made : ℕ → ℕ → K) (count : ℕ) (bs : List ℕ) (before : Tables K) (r q : Result Sizes (Refusal × ℕ)) (after other : Tables K) where
  refused_one : {f : Refusal × ℕ} → (r ≡ Err f) × (after ≡ before) → (q ≡ Err f) × (other ≡ before) → (q ≡ r) × (other ≡ after)
  refused_one a b = (b.0 ∙ sym a.0, b.1 ∙ sym a.1)

  lines_one : (z : Sizes) → OtherLines made count bs before r after z → OtherLines made count bs before q other z → (q ≡ r) × (other ≡ after)
  lines_one z (inl a) (inl b) = let same = wrong_one a.1 b.1 in refused_one a.2 (b.2.0 ∙ ap (λ k. Err (refusal.Line, k + 1)) (sym same), b.2.1)
  lines_one z (inl a) (inr b) = absurd (a.1.unlisted b.0 b.2 b.1)
  lines_one z (inr a) (inl b) = absurd (b.1.unlisted a.0 a.2 a.1)
  lines_one z (inr a) (inr b) =
      let same = listed_one a.0 b.0 a.1 b.1 (b.2 ∙ sym a.2) in
      (b.3 ∙ sym a.3, b.4 ∙ ap (λ l. filled made l before) same ∙ sym a.4)

  pub one_outcome : Outcome made count bs before r after → Outcome made count bs before q other → (q ≡ r) × (other ≡ after)
  one_outcome (inl a) (inl b) = refused_one a.1 b.1
  one_outcome (inl a) (inr b) = absurd (a.0 b.0 b.1)
  one_outcome (inr a) (inl b) = absurd (b.0 a.0 a.1)
  one_outcome (inr a) (inr b) =
      let z = a.0 in
      let later : Sizes → Type 0 = λ y. Tried (Within y) (Refused made count bs before q other refusal.Size 0) (Tried (Room y before) (Refused made count bs before q other refusal.Room 0) (OtherLines made count bs before q other y)) in
      tried_one a.2 (subst later (first_one a.1 b.1) b.2) refused_one (λ within c d. tried_one c d refused_one (λ room. lines_one z))

-- an outcome is what is read
pub read_by : {K : Type 0} {made : ℕ → ℕ → K} {count : ℕ} {bs : List ℕ} {before after : Tables K} {r : Result Sizes (Refusal × ℕ)} → Outcome made count bs before r after → Read made count bs before r after
read_by {made} {count} {bs} {before} {after} {r} o = record { outcome = o; only = λ q t u. one_outcome made count bs before r q after t o u }
