-- The starts of rows, written row by row. Assumes nothing.
use Rattle.std.proofs.Common.{◌≡◌, ℕ, ◌+◌, ◌-◌, ◌<◌, ◌≤◌, cond, ltb, List, [], ◌∷◌, ◌++◌, map, length, get_or, drop, count_by, sym, refl, ap, ◌∙◌, ⊎_elim, arith, length-append, length-drop}
use Rattle.std.specs.List.{range_with_len, AllByRecursion}
use Rattle.std.proofs.lemmas.List.FromFn.{length-map-range_with_len, get_or-map-range_with_len}
use Rattle.std.proofs.ByRecursion.{All-push, All-weaker}
use Rattle.std.proofs.lemmas.List.{ext_get_or, get_or_append_left, get_or-append_right, get_or-drop}
use Rattle.std.proofs.lemmas.List.Sums.{sum_by-cons, sum_by_push}
use Rattle.std.proofs.lemmas.Bool.{cases_lt, lt-ltb, le-ltb}
use Rattle.reading.specs.Listing.{Entry}
use Rattle.reading.specs.Outcome.{laid, starts_of}

-- how many of the entries stand in a row below w
abbrev pub below : ℕ → List Entry → ℕ
below w xs = count_by (λ x. ltb x.row w) xs

below_all : (w : ℕ) (xs : List Entry) → AllByRecursion (λ x. x.row < w) xs → below w xs ≡ length xs
below_all w [] h = refl
below_all w (x ∷ xs) h =
    let one : cond {A = ℕ} (ltb x.row w) 1 0 ≡ 1 = ap (λ b. cond {A = ℕ} b 1 0) (lt-ltb x.row w h.0) in
    let rest = below_all w xs h.1 in
    sum_by-cons (λ y. cond {A = ℕ} (ltb y.row w) 1 0) x xs ∙ omega arith

below_push : (w : ℕ) (xs : List Entry) (x : Entry) → w ≤ x.row → below w (xs ++ x ∷ []) ≡ below w xs
below_push w xs x h =
    let none : cond {A = ℕ} (ltb x.row w) 1 0 ≡ 0 = ap (λ b. cond {A = ℕ} b 1 0) (le-ltb x.row w h) in
    let sum = sum_by_push (λ y. cond {A = ℕ} (ltb y.row w) 1 0) xs x in
    omega arith

-- the rows below `started` have their starts, of which there are `old` ones in the other places
pub record Started (old starts : List ℕ) (xs : List Entry) (started : ℕ) : Type 0 where
  pub rows : AllByRecursion (λ x. x.row < started) xs
  pub counted : (w : ℕ) → w < started → get_or starts w 0 ≡ below w xs
  pub kept : (w : ℕ) → started ≤ w → get_or starts w 0 ≡ get_or old w 0

-- the places from `from` up to `to` are written
pub record Written (was is : List ℕ) (from to value : ℕ) : Type 0 where
  pub before : (k : ℕ) → k < from → get_or is k 0 ≡ get_or was k 0
  pub within : (k : ℕ) → from ≤ k → k < to → get_or is k 0 ≡ value
  pub after : (k : ℕ) → to ≤ k → get_or is k 0 ≡ get_or was k 0

-- up to `to`, where no row below it is written yet from `started` on
pub started_to : {old was is : List ℕ} {xs : List Entry} {started : ℕ} (to : ℕ) → Started old was xs started → Written was is started to (length xs) → started ≤ to → Started old is xs to
started_to {xs} {started} to m s h =
    record {
      rows = All-weaker (λ x. x.row < started) (λ x. x.row < to) (λ x l. omega arith) xs m.rows;
      counted = λ w l. ⊎_elim (λ b. s.before w b ∙ m.counted w b) (λ a. s.within w a l ∙ sym (below_all w xs (All-weaker (λ x. x.row < started) (λ x. x.row < w) (λ x k. omega arith) xs m.rows))) (cases_lt w started);
      kept = λ w l. s.after w l ∙ m.kept w (omega arith);
    }

-- an entry of the last row that has its start
pub started_push : {old starts : List ℕ} {xs : List Entry} {started : ℕ} (x : Entry) → Started old starts xs started → started ≡ x.row + 1 → Started old starts (xs ++ x ∷ []) started
started_push {xs} {started} x m e =
    record {
      rows = All-push (λ y. y.row < started) xs x m.rows (omega arith);
      counted = λ w l. m.counted w l ∙ sym (below_push w xs x (omega arith));
      kept = m.kept;
    }

-- with the starts of all rows the table is laid out
pub started_all : {old starts : List ℕ} {xs : List Entry} (parcels : ℕ) → Started old starts xs (parcels + 1) → length starts ≡ length old → parcels + 1 ≤ length old → starts ≡ laid (starts_of parcels xs) old
started_all {old} {starts} {xs} parcels m e h =
    let f : ℕ → ℕ = λ u. below u xs in
    let vs = map f (range_with_len 0 (parcels + 1)) in
    let long : length vs ≡ parcels + 1 = length-map-range_with_len f 0 (parcels + 1) in
    let whole : length (laid vs old) ≡ length vs + (length old - length vs) = length-append vs _ ∙ ap (λ n. length vs + n) (length-drop (length vs) old) in
    ext_get_or 0 starts (laid vs old) (omega arith) (λ k l. ⊎_elim
    (λ b. m.counted k b ∙ sym (get_or-map-range_with_len f 0 (parcels + 1) k k 0 b (omega arith)) ∙ sym (get_or_append_left vs (drop (length vs) old) 0 k (omega arith)))
    (λ a. m.kept k a ∙ ap (λ i. get_or old i 0) (let i : k ≡ length vs + (k - length vs) = omega arith in i) ∙ sym (get_or-drop (length vs) old (k - length vs) 0) ∙ sym (get_or-append_right vs (drop (length vs) old) (length vs) k 0 refl (omega arith)))
    (cases_lt k (parcels + 1)))
