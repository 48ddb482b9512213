-- Letting go, place by place of the row. Assumes nothing.
use Rattle.std.proofs.Common.{◌≡◌, ℕ, ◌+◌, ◌-◌, ◌<◌, ◌≤◌, Bool, true, false, cond, not, ◌&&◌, eqb, ltb, List, [], ◌∷◌, ◌++◌, map, length, get_or, set, filter, sym, refl, ap, ◌∙◌, subst, ⊎_elim, arith}
use Rattle.std.specs.List.Sorted.{IsPermutation}
use Rattle.std.proofs.lemmas.List.{get_or-set_same, get_or-set_other, length-append, length-map, length-set, length_push, map-append, append_assoc}
use Rattle.std.proofs.lemmas.List.Sorted.{IsPermutation-refl, IsPermutation-cons, IsPermutation-trans, IsPermutation-sym, length_permutation}
use Rattle.std.proofs.lemmas.Bool.{cases_Bool, cases_eq, cond-true, cond-false, and_from, and_left, and_right, and_parts, lt-ltb, le-ltb, eqb-false, not-true, both_ways, cases_lt, not_from_false, ne_eqb}
use Rattle.line.specs.declared.Note.{Note}
use Rattle.sheet.specs.Graph.{Graph, InRow, parcels, row_start, row_end}
use Rattle.protocol.specs.Marks.{open', places_from, open_others, drop, strike, let_go}
use Rattle.protocol.proofs.Marks.{same_open, gone_facts, facts_gone}
use Rattle.round.specs.Parts.{DroppedOne, LetGo}
use Rattle.round.proofs.Rows.{kept_yes, kept_not, kept_fewer, shuffled_middle}

module _ {K : Type 0} (t : Graph K) (u keep : ℕ) (m0 : List ℕ) (before : List Note) where
  abbrev other : ℕ → Bool
  other x = open' m0 x && not (eqb x keep)

  -- the other open entries of the row before place q
  abbrev seen : ℕ → List ℕ
  seen q = filter other (places_from (q - row_start t u) (row_start t u))

  -- as far as place q, the row was let go of
  pub record Going (q : ℕ) (m : List ℕ) (after : List Note) : Type 0 where
    pub long : length m ≡ length m0
    pub marks : (x : ℕ) → get_or m x 0 ≡ cond (ltb x q && let_go t m0 u keep x) (strike (get_or m0 x 0)) (get_or m0 x 0)
    pub put : IsPermutation (map (drop t u) (seen q) ++ before) after

  pub going_start : (parcel : u < parcels t) → Going (row_start t u) m0 before
  going_start parcel = record {
    long = refl;
    marks = λ x.
        sym (cond-false (ltb x (row_start t u) && let_go t m0 u keep x) (strike (get_or m0 x 0)) (get_or m0 x 0)
        (⊎_elim (λ g. and_left (ltb x (row_start t u)) (let_go t m0 u keep x) (le-ltb x (row_start t u) (gone_facts t u parcel m0 keep x g).0.from)) (λ n. and_right (ltb x (row_start t u)) (let_go t m0 u keep x) n) (cases_Bool (let_go t m0 u keep x))));
    put = (let e : row_start t u - row_start t u ≡ 0 = omega arith in subst (λ n. IsPermutation (map (drop t u) (filter other (places_from n (row_start t u))) ++ before) before) (sym e) (IsPermutation-refl before));
  }

  module _ (q : ℕ) (row : InRow t u q) (m : List ℕ) (after : List Note) (go : Going q m after) where
    -- the place itself is as it was
    here : get_or m q 0 ≡ get_or m0 q 0
    here = go.marks q ∙ cond-false (ltb q q && let_go t m0 u keep q) (strike (get_or m0 q 0)) (get_or m0 q 0) (and_left (ltb q q) (let_go t m0 u keep q) (le-ltb q q (omega arith)))

    test_is : (open' m q && not (eqb q keep)) ≡ other q
    test_is = ap (λ b. b && not (eqb q keep)) (same_open m0 m q q here)

    -- there is room for one more drop
    pub going_room : (capacity : ℕ) → length (open_others t m0 u keep) + length before ≤ capacity → (open' m q && not (eqb q keep)) ≡ true → length after < capacity
    going_room capacity room is =
        let start = row_start t u in
        let size = row_end t u - start in
        let one : length (seen (q + 1)) ≡ length (seen q) + 1 = ap length (kept_yes other start q row.from (sym test_is ∙ is)) ∙ length_push (seen q) q in
        let few = kept_fewer other (q + 1 - start) (size - (q + 1 - start)) start in
        let all : length (filter other (places_from (q + 1 - start + (size - (q + 1 - start))) start)) ≡ length (open_others t m0 u keep) = (let e : q + 1 - start + (size - (q + 1 - start)) ≡ size = omega (arith, row.from, row.to) in ap (λ n. length (filter other (places_from n start))) e) in
        let now = length_permutation (map (drop t u) (seen q) ++ before) after go.put ∙ length-append (map (drop t u) (seen q)) before in
        let same = length-map (seen q) (drop t u) in
        omega (arith, one, few, all, now, same, room)

    -- away from q, one place more changes nothing
    elsewhere : (x : ℕ) → (x ≡ q → ⊥) → cond (ltb x q && let_go t m0 u keep x) (strike (get_or m0 x 0)) (get_or m0 x 0) ≡ cond (ltb x (q + 1) && let_go t m0 u keep x) (strike (get_or m0 x 0)) (get_or m0 x 0)
    elsewhere x n = ap (λ b. cond (b && let_go t m0 u keep x) (strike (get_or m0 x 0)) (get_or m0 x 0)) same
      where
        same : ltb x q ≡ ltb x (q + 1)
        same = ⊎_elim (λ less. lt-ltb x q less ∙ sym (lt-ltb x (q + 1) (omega arith))) (λ past. le-ltb x q past ∙ sym (le-ltb x (q + 1) (omega arith))) (cases_lt x q)

    pub going_step : (m' : List ℕ) (after' : List Note) → u < parcels t → q < length m → DroppedOne t u q (open' m q && not (eqb q keep)) m m' after after' → Going (q + 1) m' after'
    going_step m' after' parcel within did = by_test (open' m q && not (eqb q keep)) refl did
      where
        by_test : (b : Bool) → (open' m q && not (eqb q keep)) ≡ b → DroppedOne t u q b m m' after after' → Going (q + 1) m' after'
        by_test true is d =
            let kept = and_parts (open' m q) (not (eqb q keep)) is in
            let gone : let_go t m0 u keep q ≡ true = facts_gone t u parcel m0 keep q row (sym (same_open m0 m q q here) ∙ kept.0) (eqb-false q keep (not-true (eqb q keep) kept.1)) in
            let list : map (drop t u) (seen (q + 1)) ++ before ≡ map (drop t u) (seen q) ++ (drop t u q ∷ before) =
            ap (λ l. map (drop t u) l ++ before) (kept_yes other (row_start t u) q row.from (sym test_is ∙ is)) ∙ ap (λ l. l ++ before) (map-append (drop t u) (seen q) (q ∷ [])) ∙ append_assoc (map (drop t u) (seen q)) (drop t u q ∷ []) before in
            record {
              long = ap length d.0 ∙ length-set m q (strike (get_or m q 0)) ∙ go.long;
              marks = λ x.
                  ⊎_elim
                  (λ (e : x ≡ q).
                  ap (λ l. get_or l x 0) d.0 ∙ ap (λ y. get_or (set m q (strike (get_or m q 0))) y 0) e ∙ get_or-set_same m q (strike (get_or m q 0)) 0 within ∙ ap strike here
                  ∙ sym (ap (λ y. cond (ltb y (q + 1) && let_go t m0 u keep y) (strike (get_or m0 y 0)) (get_or m0 y 0)) e
                  ∙ cond-true (ltb q (q + 1) && let_go t m0 u keep q) (strike (get_or m0 q 0)) (get_or m0 q 0) (and_from (ltb q (q + 1)) (let_go t m0 u keep q) (lt-ltb q (q + 1) (omega arith)) gone)))
                  (λ n. ap (λ l. get_or l x 0) d.0 ∙ get_or-set_other m q x (strike (get_or m q 0)) 0 n ∙ go.marks x ∙ elsewhere x n)
                  (cases_eq x q);
              put = subst (λ l. IsPermutation l after') (sym list)
                  (IsPermutation-trans (map (drop t u) (seen q) ++ (drop t u q ∷ before)) (drop t u q ∷ after) after'
                  (IsPermutation-trans (map (drop t u) (seen q) ++ (drop t u q ∷ before)) (drop t u q ∷ (map (drop t u) (seen q) ++ before)) (drop t u q ∷ after)
                  (IsPermutation-sym (drop t u q ∷ (map (drop t u) (seen q) ++ before)) (map (drop t u) (seen q) ++ (drop t u q ∷ before)) (shuffled_middle (map (drop t u) (seen q)) (drop t u q) before))
                  (IsPermutation-cons (drop t u q) (map (drop t u) (seen q) ++ before) after go.put))
                  d.1);
            }
        by_test false is d =
            let list : seen (q + 1) ≡ seen q = kept_not other (row_start t u) q row.from (sym test_is ∙ is) in
            let stays : let_go t m0 u keep q ≡ false =
            ⊎_elim (λ g. let f = gone_facts t u parcel m0 keep q g in absurd (both_ways (open' m q && not (eqb q keep)) is (test_is ∙ and_from (open' m0 q) (not (eqb q keep)) f.1 (not_from_false (eqb q keep) (ne_eqb q keep f.2))))) (λ n. n) (cases_Bool (let_go t m0 u keep q)) in
            record {
              long = ap length d.0 ∙ go.long;
              marks = λ x.
                  ⊎_elim
                  (λ (e : x ≡ q).
                  ap (λ l. get_or l x 0) d.0 ∙ ap (λ y. get_or m y 0) e ∙ here
                  ∙ sym (ap (λ y. cond (ltb y (q + 1) && let_go t m0 u keep y) (strike (get_or m0 y 0)) (get_or m0 y 0)) e ∙ cond-false (ltb q (q + 1) && let_go t m0 u keep q) (strike (get_or m0 q 0)) (get_or m0 q 0) (and_right (ltb q (q + 1)) (let_go t m0 u keep q) stays)))
                  (λ n. ap (λ l. get_or l x 0) d.0 ∙ go.marks x ∙ elsewhere x n)
                  (cases_eq x q);
              put = subst (λ l. IsPermutation (map (drop t u) l ++ before) after') (sym list) (subst (IsPermutation (map (drop t u) (seen q) ++ before)) (sym d.1) go.put);
            }

  pub going_end : (q : ℕ) (m : List ℕ) (after : List Note) → u < parcels t → q ≡ row_end t u → Going q m after → LetGo t u keep m0 m before after
  going_end q m after parcel end go =
      let size : seen q ≡ open_others t m0 u keep = ap (λ n. filter other (places_from (n - row_start t u) (row_start t u))) end in
      record {
        out = map (drop t u) (open_others t m0 u keep);
        go = record {
          drops = refl;
          long = go.long;
          struck = λ x.
              go.marks x
              ∙ ⊎_elim
              (λ g. cond-true (ltb x q && let_go t m0 u keep x) (strike (get_or m0 x 0)) (get_or m0 x 0) (and_from (ltb x q) (let_go t m0 u keep x) (lt-ltb x q (omega (arith, end, (gone_facts t u parcel m0 keep x g).0.to))) g) ∙ sym (cond-true (let_go t m0 u keep x) (strike (get_or m0 x 0)) (get_or m0 x 0) g))
              (λ n. cond-false (ltb x q && let_go t m0 u keep x) (strike (get_or m0 x 0)) (get_or m0 x 0) (and_right (ltb x q) (let_go t m0 u keep x) n) ∙ sym (cond-false (let_go t m0 u keep x) (strike (get_or m0 x 0)) (get_or m0 x 0) n))
              (cases_Bool (let_go t m0 u keep x));
        };
        put = subst (λ l. IsPermutation (map (drop t u) l ++ before) after) size go.put;
      }
