-- The pairs of a sheet are its entries, each with its mirror. Assumes nothing.
use Rattle.std.proofs.Common.{◌≡◌, ℕ, zero, suc, ◌+◌, ◌-◌, ◌<◌, min, max, true, ltb, List, [], ◌∷◌, map, length, get_or, filter, sym, refl, ap, ◌∙◌, subst, inl, inr, ⊎_elim, arith}
use Rattle.std.proofs.lemmas.List.{get_or-take, get_or-drop, length-take, length-drop}
use Rattle.std.proofs.lemmas.Bool.{ltb-true, lt-ltb, both_ways, cond_both, cases_lt, cases_eq}
use Rattle.std.proofs.lemmas.Bool.Decides.{nat_tests}
use Rattle.matching.specs.Pairs.{Pair, holds, touch, ◌∈◌}
use Rattle.matching.proofs.In.{in_front, in_back, in_either}
use Rattle.sheet.specs.Graph.{Graph, parcels, row_start, row_end, other, InRow, mirror}
use Rattle.sheet.specs.Check.{Sound}
use Rattle.pairing.specs.Pairs.{joint, row, upward, pairs_below, sheet_pairs}
use Rattle.pairing.proofs.Entries.{row_facts, other_not_own, mirror_in, mirror_names}

-- the pairs of u with the higher numbers of a list
abbrev ups : ℕ → List ℕ → List Pair
ups u xs = map (joint u) (filter (ltb u) xs)

ups_in : (u : ℕ) (xs : List ℕ) (i : ℕ) → i < length xs → u < get_or xs i 0 → joint u (get_or xs i 0) ∈ ups u xs
ups_in u [] i less up = absurd (omega arith)
ups_in u (x ∷ xs) zero less up = cond_both (ltb u x) (x ∷ filter (ltb u) xs) (filter (ltb u) xs) (λ l. joint u x ∈ map (joint u) l) (λ _. inl refl) (λ e. absurd (both_ways (ltb u x) e (lt-ltb u x up)))
ups_in u (x ∷ xs) (suc i) less up =
    let rest = ups_in u xs i (omega arith) up in
    cond_both (ltb u x) (x ∷ filter (ltb u) xs) (filter (ltb u) xs) (λ l. joint u (get_or xs i 0) ∈ map (joint u) l) (λ _. inr rest) (λ _. rest)

-- q is the pair of u and the number at some place of the list
abbrev UpAt : ℕ → List ℕ → Pair → Type 0
UpAt u xs q = (i : ℕ) × (i < length xs) × (u < get_or xs i 0) × (q ≡ joint u (get_or xs i 0))

ups_from : (u : ℕ) (xs : List ℕ) (q : Pair) → q ∈ ups u xs → UpAt u xs q
ups_from u [] q = absurd
ups_from u (x ∷ xs) q =
    let later : q ∈ ups u xs → UpAt u (x ∷ xs) q = λ m. let r = ups_from u xs q m in (suc r.0, omega (arith, r.1), r.2, r.3) in
    cond_both (ltb u x) (x ∷ filter (ltb u) xs) (filter (ltb u) xs) (λ l. q ∈ map (joint u) l → UpAt u (x ∷ xs) q)
    (λ e. ⊎_elim (λ is. (0, omega arith, ltb-true u x e, is)) later) (λ _. later)

module _ {K : Type 0} (t : Graph K) where
  below_in : (n u : ℕ) (q : Pair) → u < n → q ∈ upward t u → q ∈ pairs_below t n
  below_in zero u q less m = absurd (omega arith)
  below_in (suc n) u q less m =
      ⊎_elim (λ e. in_back (pairs_below t n) (upward t n) q (subst (λ w. q ∈ upward t w) e m)) (λ other. in_front (pairs_below t n) (upward t n) q (below_in n u q (omega arith) m)) (cases_eq u n)

  below_from : (n : ℕ) (q : Pair) → q ∈ pairs_below t n → (u : ℕ) × (u < n) × (q ∈ upward t u)
  below_from zero q m = absurd m
  below_from (suc n) q m =
      ⊎_elim (λ f. let r = below_from n q f in (r.0, omega (arith, r.1), r.2)) (λ b. (n, omega arith, b)) (in_either (pairs_below t n) (upward t n) q m)

pub joint_back : (u v : ℕ) → joint u v ≡ joint v u
joint_back u v = let a : min u v ≡ min v u = omega arith in let b : max u v ≡ max v u = omega arith in λ i. record { lo = a i; hi = b i }

pub joint_up : (u v : ℕ) → u < v → joint u v ≡ record { lo = u; hi = v }
joint_up u v less = let a : min u v ≡ u = omega arith in let b : max u v ≡ v = omega arith in λ i. record { lo = a i; hi = b i }

pub joint_left : (u v : ℕ) → holds (joint u v) u ≡ true
joint_left u v = grind (arith, nat_tests)

-- two pairs of one parcel touch
pub joint_shares : (u v w : ℕ) → touch (joint u v) (joint u w) ≡ true
joint_shares u v w = grind (arith, nat_tests)

-- an entry that names a pair's higher parcel in the row of the lower one, and its mirror
pub record Sides {K : Type 0} (t : Graph K) (q : Pair) : Type 0 where
  pub rising : q.lo < q.hi
  pub place : ℕ
  pub within : InRow t q.lo place
  pub names : other t place ≡ q.hi
  pub mirrored : InRow t q.hi (mirror t q.lo place)
  pub names_back : other t (mirror t q.lo place) ≡ q.lo

module _ {K : Type 0} (t : Graph K) (sound : Sound t) where
  row_long : (u : ℕ) → u < parcels t → length (row t u) ≡ row_end t u - row_start t u
  row_long u less =
      let f = row_facts t sound u less in
      simp (length-take, length-drop) (omega (arith, f.forward, f.within))

  row_at : (u i : ℕ) → i < row_end t u - row_start t u → get_or (row t u) i 0 ≡ other t (row_start t u + i)
  row_at u i less = rw (get_or-take, get_or-drop)

  pair_up : (u p : ℕ) → InRow t u p → u < other t p → joint u (other t p) ∈ sheet_pairs t
  pair_up u p within up =
      let i = p - row_start t u in
      let e : row_start t u + i ≡ p = omega (arith, within.from) in
      let less : i < row_end t u - row_start t u = omega (arith, within.from, within.to) in
      let is : get_or (row t u) i 0 ≡ other t p = row_at u i less ∙ ap (other t) e in
      let m : joint u (get_or (row t u) i 0) ∈ upward t u = ups_in u (row t u) i (omega (arith, row_long u within.parcel)) (omega (arith, is)) in
      below_in t (parcels t) u (joint u (other t p)) within.parcel (subst (λ v. joint u v ∈ upward t u) is m)

  -- an entry and its mirror are a pair of the sheet
  pub pair_in : (u p : ℕ) → InRow t u p → joint u (other t p) ∈ sheet_pairs t
  pair_in u p within =
      ⊎_elim (pair_up u p within)
      (λ l. let v = other t p in
      let q = mirror t u p in
      let back = mirror_names t sound u p within in
      let not_own = other_not_own t sound u p within in
      let up : v < other t q = ⊎_elim (λ e. absurd (not_own e)) (λ n. omega arith) (cases_eq v u) in
      subst (λ x. x ∈ sheet_pairs t) (joint_back v u) (subst (λ w. joint v w ∈ sheet_pairs t) back (pair_up v q (mirror_in t sound u p within) up)))
      (cases_lt u (other t p))

  -- and every pair of the sheet is one
  pub pair_from : (q : Pair) → q ∈ sheet_pairs t → Sides t q
  pair_from q m =
      let r = below_from t (parcels t) q m in
      let u = r.0 in
      let s = ups_from u (row t u) q r.2 in
      let p = row_start t u + s.0 in
      let less : s.0 < row_end t u - row_start t u = omega (arith, s.1, row_long u r.1) in
      let is : get_or (row t u) s.0 0 ≡ other t p = row_at u s.0 less in
      let within : InRow t u p = record { parcel = r.1; from = omega arith; to = omega arith } in
      let up : u < other t p = omega (arith, s.2, is) in
      let whole : Sides t (record { lo = u; hi = other t p }) =
      record { rising = up; place = p; within = within; names = refl; mirrored = mirror_in t sound u p within; names_back = mirror_names t sound u p within } in
      subst (Sides t) (sym (s.3 ∙ ap (joint u) is ∙ joint_up u (other t p) up)) whole
