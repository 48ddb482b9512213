-- The entries of a sound sheet: where each stands, what it names, and its mirror. Assumes nothing.
use Rattle.std.proofs.Common.{◌≡◌, ℕ, zero, suc, ◌+◌, ◌-◌, ◌<◌, ◌≤◌, eqb, List, get_or, sym, refl, ap, ◌∙◌, subst, ⊎_elim, arith}
use Rattle.std.proofs.lemmas.Bool.{eqb-true, eqb-false, ltb-true, cond_both, cases_order, cases_eq}
use Rattle.sheet.specs.Graph.{Graph, parcels, entries, row_start, row_end, other, InRow, first_place, place_of, mirror}
use Rattle.sheet.specs.Check.{Sound}
use Rattle.sheet.proofs.Facts.{ParcelFacts, parcel_facts, EntryFacts, entry_facts}

-- the place that a search for v from p on comes to
record Found (xs : List ℕ) (k p v r : ℕ) : Type 0 where
  from : p ≤ r
  to : r ≤ p + k
  is : r < p + k → get_or xs r 0 ≡ v
  first : (q : ℕ) → p ≤ q → q < p + k → get_or xs q 0 ≡ v → r ≤ q

found : (xs : List ℕ) (k p v : ℕ) → Found xs k p v (first_place xs k p v)
found xs zero p v = record { from = omega arith; to = omega arith; is = λ l. absurd (omega arith); first = λ q f l e. omega arith }
found xs (suc k) p v =
    cond_both (eqb (get_or xs p 0) v) p (first_place xs k (suc p) v) (Found xs (suc k) p v)
    (λ e. record { from = omega arith; to = omega arith; is = λ _. eqb-true (get_or xs p 0) v e; first = λ q f l _. omega arith })
    (λ e. let rest = found xs k (suc p) v in
    record {
      from = omega (arith, rest.from);
      to = omega (arith, rest.to);
      is = λ l. rest.is (omega arith);
      first = λ q f l is. ⊎_elim (λ s. absurd (eqb-false (get_or xs p 0) v e (ap (λ x. get_or xs x 0) s ∙ is))) (λ s. rest.first q (omega arith) (omega arith) is) (cases_eq p q);
    })

module _ {K : Type 0} (t : Graph K) (sound : Sound t) where
  pub row_facts : (u : ℕ) → u < parcels t → ParcelFacts t u
  row_facts u less = parcel_facts t u (sound.parcel u less)

  pub facts_at : (u p : ℕ) → InRow t u p → EntryFacts t u p
  facts_at u p within = entry_facts t u p (sound.rising u p within)

  -- an entry names a parcel
  pub other_below : (u p : ℕ) → InRow t u p → other t p < parcels t
  other_below u p within = (facts_at u p within).below

  -- and not its own
  pub other_not_own : (u p : ℕ) → InRow t u p → other t p ≡ u → ⊥
  other_not_own u p within = (facts_at u p within).not_own

  pub place_below : (u p : ℕ) → InRow t u p → p < entries t
  place_below u p within = omega (arith, within.to, (row_facts u within.parcel).within)

  rises_by : (u p k : ℕ) → InRow t u p → InRow t u (p + suc k) → other t p < other t (p + suc k)
  rises_by u p zero a b =
      let e : (p + 1) - 1 ≡ p = omega arith in
      let up : other t ((p + 1) - 1) < other t (p + 1) = (facts_at u (p + 1) b).above_last (omega (arith, a.from)) in
      subst (λ x. other t x < other t (p + 1)) e up
  rises_by u p (suc k) a b =
      let q = p + suc k in
      let e : (p + suc (suc k)) - 1 ≡ q = omega arith in
      let c : InRow t u q = record { parcel = a.parcel; from = omega (arith, a.from); to = omega (arith, b.to) } in
      let up : other t ((p + suc (suc k)) - 1) < other t (p + suc (suc k)) = (facts_at u (p + suc (suc k)) b).above_last (omega (arith, a.from)) in
      let before = rises_by u p k a c in
      let last : other t q < other t (p + suc (suc k)) = subst (λ x. other t x < other t (p + suc (suc k))) e up in
      omega arith

  -- a later entry of a row names a higher parcel
  pub row_rises : (u p q : ℕ) → InRow t u p → InRow t u q → p < q → other t p < other t q
  row_rises u p q a b less =
      let e : p + suc (q - p - 1) ≡ q = omega arith in
      subst (λ x. other t p < other t x) e (rises_by u p (q - p - 1) a (subst (InRow t u) (sym e) b))

  -- a row names a parcel once
  pub one_place : (u p q : ℕ) → InRow t u p → InRow t u q → other t p ≡ other t q → p ≡ q
  one_place u p q a b same =
      ⊎_elim (λ e. e)
      (⊎_elim (λ l. absurd (omega (arith, row_rises u p q a b l, same))) (λ l. absurd (omega (arith, row_rises u q p b a l, same))))
      (cases_order p q)

  -- of two entries of a row, the one that names the higher parcel is the later one
  pub row_falls : (u p q : ℕ) → InRow t u p → InRow t u q → other t p < other t q → p < q
  row_falls u p q a b less =
      ⊎_elim (λ e. absurd (omega (arith, ap (other t) e)))
      (⊎_elim (λ l. l) (λ l. absurd (omega (arith, row_rises u q p b a l))))
      (cases_order p q)

  -- a search in a row that ends inside it has found the parcel
  pub place_in : (u v : ℕ) → u < parcels t → place_of t u v < row_end t u → InRow t u (place_of t u v)
  place_in u v less found_it =
      record { parcel = less; from = (found t.others (row_end t u - row_start t u) (row_start t u) v).from; to = found_it }

  pub place_names : (u v : ℕ) → u < parcels t → place_of t u v < row_end t u → other t (place_of t u v) ≡ v
  place_names u v less found_it =
      (found t.others (row_end t u - row_start t u) (row_start t u) v).is (omega (arith, (row_facts u less).forward, found_it))

  -- the entry that names v is the one that a search for v finds
  pub place_is : (u p : ℕ) → InRow t u p → place_of t u (other t p) ≡ p
  place_is u p within =
      let forward = (row_facts u within.parcel).forward in
      let search-for = found t.others (row_end t u - row_start t u) (row_start t u) (other t p) in
      let near : place_of t u (other t p) ≤ p = search-for.first p within.from (omega (arith, within.to)) refl in
      let inside : place_of t u (other t p) < row_end t u = omega (arith, within.to) in
      one_place u (place_of t u (other t p)) p (place_in u (other t p) within.parcel inside) within (place_names u (other t p) within.parcel inside)

  -- the mirror of an entry stands in the row of the parcel that the entry names
  pub mirror_in : (u p : ℕ) → InRow t u p → InRow t (other t p) (mirror t u p)
  mirror_in u p within = place_in (other t p) u (other_below u p within) (ltb-true (mirror t u p) (row_end t (other t p)) (sound.mirror u p within))

  -- and names the entry's own parcel
  pub mirror_names : (u p : ℕ) → InRow t u p → other t (mirror t u p) ≡ u
  mirror_names u p within = place_names (other t p) u (other_below u p within) (ltb-true (mirror t u p) (row_end t (other t p)) (sound.mirror u p within))

  -- the mirror of the mirror is the entry
  pub mirror_back : (u p : ℕ) → InRow t u p → mirror t (other t p) (mirror t u p) ≡ p
  mirror_back u p within = ap (λ w. place_of t w (other t p)) (mirror_names u p within) ∙ place_is u p within

  -- any entry of the other parcel's row that names u is the mirror
  pub mirror_is : (u p q : ℕ) → InRow t u p → InRow t (other t p) q → other t q ≡ u → mirror t u p ≡ q
  mirror_is u p q within there names =
      one_place (other t p) (mirror t u p) q (mirror_in u p within) there (mirror_names u p within ∙ sym names)
