-- Where a longer run of right lines stands at one front, a right line comes next. Assumes nothing.
use Rattle.std.proofs.Common.{◌≡◌, ℕ, zero, suc, ◌+◌, ◌<◌, List, [], ◌∷◌, ◌++◌, map, length, get_or, sym, refl, ap, ◌∙◌, subst, append_assoc, append-nil, arith, length-append}
use Rattle.std.specs.List.{AllByRecursion}
use Rattle.std.proofs.lemmas.List.{length-map, map-append, map_push}
use Rattle.text.specs.Rows.{Begins, none, line}
use Rattle.text.proofs.OneWay.{begins_strip}
use Rattle.reading.specs.declared.Sizes.{Sizes}
use Rattle.reading.specs.declared.rows.Parcel.{Parcel}
use Rattle.reading.specs.Listing.{Entry, parcel_row, parcel_rows, entry_row, FitParcel, FitEntry, NeverFalls}
use Rattle.reading.specs.Passing.{Parcels, Entries, AllPassed}
use Rattle.reading.proofs.Passed.{parcel_rows_append, row_of}

-- as many lines at one front are the same lines, and end in one place
pub same_end : {rows more : List (List ℕ)} {bs a c : List ℕ} → Begins rows bs a → Begins more bs c → length rows ≡ length more → (more ≡ rows) × (a ≡ c)
same_end {rows} {more} {bs} {a} {c} x y e =
    let rest = begins_strip x y (omega arith) in
    let long = ap length rest.1 ∙ length-append rows rest.0 in
    no_more rest.0 rest.1 rest.2 (omega arith)
  where
    no_more : (t : List (List ℕ)) → more ≡ rows ++ t → Begins t a c → length t ≡ 0 → (more ≡ rows) × (a ≡ c)
    no_more [] e (none z) l = (e ∙ append-nil rows, z)
    no_more (r ∷ t) e b l = absurd (omega arith)

-- lines that stand at the front part where the first of them end
pub begins_part : (rows more : List (List ℕ)) {a c : List ℕ} → Begins (rows ++ more) a c → (b : List ℕ) × Begins rows a b × Begins more b c
begins_part [] more {a} h = (a, none refl, h)
begins_part (r ∷ rows) more (line l s v e h) = let rest = begins_part rows more h in (rest.0, line l s v e rest.1, rest.2)

-- a list parted at one of its places
parted : {X : Type 0} (xs : List X) (k : ℕ) → k < length xs → (ts : List X) × (x : X) × (us : List X) × (xs ≡ ts ++ x ∷ us) × (length ts ≡ k)
parted [] k h = absurd (omega arith)
parted (x ∷ xs) zero h = ([], x, xs, refl, refl)
parted (x ∷ xs) (suc k) h =
    let rest = parted xs k (omega arith) in
    (x ∷ rest.0, rest.1, rest.2, ap (λ l. x ∷ l) rest.3, ap suc rest.4)

all_mid : {X : Type 0} (P : X → Type 0) (ts : List X) (x : X) (us : List X) → AllByRecursion P (ts ++ x ∷ us) → P x
all_mid P [] x us h = h.0
all_mid P (t ∷ ts) x us h = all_mid P ts x us h.1

pub length_parcel_rows : (i : ℕ) (ps : List Parcel) → length (parcel_rows i ps) ≡ length ps
length_parcel_rows i [] = refl
length_parcel_rows i (p ∷ ps) = ap suc (length_parcel_rows (i + 1) ps)

pub next_parcel : {qs : List Parcel} {was a c : List ℕ} (ps : List Parcel) (more : List (List ℕ)) → Parcels qs was a → AllByRecursion FitParcel ps → Begins (parcel_rows 0 ps ++ more) was c → (k : ℕ) → length qs ≡ k → k < length ps → (p : Parcel) × (after : List ℕ) × FitParcel p × Begins (parcel_row k p ∷ []) a after
next_parcel {qs} {was} {a} {c} ps more h fit b k so less =
    let cut = parted ps k less in
    let ts = cut.0 in
    let p = cut.1 in
    let us = cut.2 in
    let rows : parcel_rows 0 ps ++ more ≡ parcel_rows 0 ts ++ (parcel_row (0 + length ts) p ∷ (parcel_rows (0 + length ts + 1) us ++ more)) =
    ap (λ l. parcel_rows 0 l ++ more) cut.3 ∙ ap (λ l. l ++ more) (parcel_rows_append 0 ts (p ∷ us)) ∙ append_assoc (parcel_rows 0 ts) (parcel_row (0 + length ts) p ∷ parcel_rows (0 + length ts + 1) us) more in
    let split = begins_part (parcel_rows 0 ts) _ (subst (λ l. Begins l was c) rows b) in
    let long : length (parcel_rows 0 qs) ≡ length (parcel_rows 0 ts) = omega (arith, length_parcel_rows 0 qs, length_parcel_rows 0 ts, cut.4) in
    let here = (same_end h.written split.1 long).1 in
    let first = begins_part (parcel_row (0 + length ts) p ∷ []) _ split.2 in
    let number : 0 + length ts ≡ k = omega (arith, cut.4) in (
      p,
      first.0,
      all_mid FitParcel ts p us (subst (AllByRecursion FitParcel) cut.3 fit),
      subst (λ i. Begins (parcel_row i p ∷ []) a first.0) number (subst (λ l. Begins (parcel_row (0 + length ts) p ∷ []) l first.0) (sym here) first.1),
    )

pub falls_front : (ys zs : List ℕ) → NeverFalls (ys ++ zs) → NeverFalls ys
falls_front [] zs h = tt
falls_front (x ∷ []) zs h = tt
falls_front (x ∷ y ∷ ys) zs h = (h.0, falls_front (y ∷ ys) zs h.1)

-- the rows of entries show in their lines
rows_shown : (xs : List Entry) → map (λ l. get_or l 0 0) (map entry_row xs) ≡ map row_of xs
rows_shown [] = refl
rows_shown (x ∷ xs) = ap (λ l. x.row ∷ l) (rows_shown xs)

pub next_entry : {count parcels : ℕ} {xs : List Entry} {was a c : List ℕ} (ys : List Entry) → Entries count parcels xs was a → Entries count parcels ys was c → length xs < length ys → (x : Entry) × (after : List ℕ) × FitEntry count parcels x × NeverFalls (map row_of (xs ++ x ∷ [])) × Begins (entry_row x ∷ []) a after
next_entry {count} {parcels} {xs} {was} {a} {c} ys h k less =
    let cut = parted ys (length xs) less in
    let ts = cut.0 in
    let x = cut.1 in
    let us = cut.2 in
    let rows : map entry_row ys ≡ map entry_row ts ++ (entry_row x ∷ map entry_row us) = ap (map entry_row) cut.3 ∙ map-append entry_row ts (x ∷ us) in
    let split = begins_part (map entry_row ts) _ (subst (λ l. Begins l was c) rows k.written) in
    let long : length (map entry_row xs) ≡ length (map entry_row ts) = length-map xs entry_row ∙ sym cut.4 ∙ sym (length-map ts entry_row) in
    let same = same_end h.written split.1 long in
    let first = begins_part (entry_row x ∷ []) _ split.2 in
    let lines : map row_of ts ≡ map row_of xs = sym (rows_shown ts) ∙ ap (map (λ l. get_or l 0 0)) same.0 ∙ rows_shown xs in
    let order : map row_of ys ≡ map row_of (xs ++ x ∷ []) ++ map row_of us =
    ap (map row_of) cut.3 ∙ map-append row_of ts (x ∷ us) ∙ ap (λ l. l ++ (x.row ∷ map row_of us)) lines ∙ sym (append_assoc (map row_of xs) (x.row ∷ []) (map row_of us)) ∙ ap (λ l. l ++ map row_of us) (sym (map_push row_of xs x)) in (
      x,
      first.0,
      all_mid (FitEntry count parcels) ts x us (subst (AllByRecursion (FitEntry count parcels)) cut.3 k.fit),
      falls_front (map row_of (xs ++ x ∷ [])) (map row_of us) (subst NeverFalls order k.in_order),
      subst (λ l. Begins (entry_row x ∷ []) l first.0) (sym same.1) first.1,
    )

-- lines that were passed once are passed again, to the same end
pub same_between : {count : ℕ} {z : Sizes} {a b : List ℕ} {ps : List Parcel} (all : AllPassed count z a) → Parcels ps a b → length ps ≡ z.parcels → all.between ≡ b
same_between {ps} all p e =
    let long : length (parcel_rows 0 all.passed_parcels) ≡ length (parcel_rows 0 ps) = omega (arith, length_parcel_rows 0 all.passed_parcels, length_parcel_rows 0 ps, all.all_parcels) in
    (same_end all.parcels.written p.written long).1

pub passed_end : {count : ℕ} {z : Sizes} {a b c : List ℕ} {ps : List Parcel} {xs : List Entry} (all : AllPassed count z a) → Parcels ps a b → length ps ≡ z.parcels → Entries count z.parcels xs b c → length xs ≡ z.entries → c ≡ []
passed_end {b} {c} {xs} all p e h k =
    let long : length (map entry_row all.passed_entries) ≡ length (map entry_row xs) = omega (arith, length-map all.passed_entries entry_row, length-map xs entry_row, all.all_entries) in
    sym (same_end all.entries.written (subst (λ x. Begins (map entry_row xs) x c) (sym (same_between all p e)) h.written) long).1
