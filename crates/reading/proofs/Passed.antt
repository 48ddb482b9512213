-- One line more is passed. Assumes nothing.
use Rattle.std.proofs.Common.{◌≡◌, ℕ, ◌+◌, ◌≤◌, List, [], ◌∷◌, ◌++◌, map, length, sym, refl, ap, ◌∙◌, subst, arith}
use Rattle.std.proofs.ByRecursion.{All-push}
use Rattle.std.proofs.lemmas.List.{map_push}
use Rattle.text.specs.Rows.{Begins}
use Rattle.text.proofs.OneWay.{begins_append}
use Rattle.reading.specs.declared.rows.Parcel.{Parcel}
use Rattle.reading.specs.Listing.{Entry, parcel_row, parcel_rows, entry_row, FitParcel, FitEntry, NeverFalls}
use Rattle.reading.specs.Passing.{Parcels, Entries}

pub parcel_rows_append : (i : ℕ) (ps qs : List Parcel) → parcel_rows i (ps ++ qs) ≡ parcel_rows i ps ++ parcel_rows (i + length ps) qs
parcel_rows_append i [] qs = ap (λ k. parcel_rows k qs) (let e : i ≡ i + 0 = omega arith in e)
parcel_rows_append i (p ∷ ps) qs = ap (λ l. parcel_row i p ∷ l) (parcel_rows_append (i + 1) ps qs ∙ ap (λ k. parcel_rows (i + 1) ps ++ parcel_rows k qs) (let e : i + 1 + length ps ≡ i + (length (p ∷ ps)) = omega arith in e))

pub parcels_push : {ps : List Parcel} {was a b : List ℕ} {k : ℕ} (p : Parcel) → Parcels ps was a → length ps ≡ k → FitParcel p → Begins (parcel_row k p ∷ []) a b → Parcels (ps ++ p ∷ []) was b
parcels_push {ps} {was} {a} {b} {k} p h e f n =
    let here : k ≡ 0 + length ps = omega arith in
    record {
      fit = All-push FitParcel ps p h.fit f;
      written = subst (λ rows. Begins rows was b) (sym (parcel_rows_append 0 ps (p ∷ []))) (begins_append h.written (subst (λ i. Begins (parcel_row i p ∷ []) a b) here n));
    }

-- the last number, or 0 where there is none
abbrev pub last : List ℕ → ℕ
last [] = 0
last (x ∷ []) = x
last (x ∷ y ∷ ys) = last (y ∷ ys)

last_push : (ys : List ℕ) (y : ℕ) → last (ys ++ y ∷ []) ≡ y
last_push [] y = refl
last_push (x ∷ []) y = refl
last_push (x ∷ z ∷ ys) y = last_push (z ∷ ys) y

pub falls_push : (ys : List ℕ) (y : ℕ) → NeverFalls ys → last ys ≤ y → NeverFalls (ys ++ y ∷ [])
falls_push [] y h l = tt
falls_push (x ∷ []) y h l = (l, tt)
falls_push (x ∷ z ∷ ys) y h l = (h.0, falls_push (z ∷ ys) y h.1 l)

-- what follows is not below the last before it
pub falls_last : (ys : List ℕ) (y : ℕ) → NeverFalls (ys ++ y ∷ []) → last ys ≤ y
falls_last [] y h = omega arith
falls_last (x ∷ []) y h = h.0
falls_last (x ∷ z ∷ ys) y h = falls_last (z ∷ ys) y h.1

abbrev pub row_of : Entry → ℕ
row_of x = x.row

pub last_row : (xs : List Entry) (x : Entry) → last (map row_of (xs ++ x ∷ [])) ≡ x.row
last_row xs x = ap last (map_push row_of xs x) ∙ last_push (map row_of xs) x.row

pub entries_push : {count parcels : ℕ} {xs : List Entry} {was a b : List ℕ} (x : Entry) → Entries count parcels xs was a → FitEntry count parcels x → last (map row_of xs) ≤ x.row → Begins (entry_row x ∷ []) a b → Entries count parcels (xs ++ x ∷ []) was b
entries_push {count} {parcels} {xs} {was} {b} x h f l n =
    record {
      fit = All-push (FitEntry count parcels) xs x h.fit f;
      in_order = subst NeverFalls (sym (map_push row_of xs x)) (falls_push (map row_of xs) x.row h.in_order l);
      written = subst (λ rows. Begins rows was b) (sym (map_push entry_row xs x)) (begins_append h.written n);
    }
