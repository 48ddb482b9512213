-- Rows follow each other, so that a place stands in one row only. Assumes nothing.
use Rattle.std.proofs.Common.{Bool, cond, ltb, false, refl, ◌≡◌, ℕ, zero, suc, ◌+◌, ◌-◌, ◌<◌, ◌≤◌, true, sym, subst, ⊎_elim, arith}
use Rattle.std.proofs.lemmas.Bool.{cases_lt, cases_order, ltb-true, lt-ltb}
use Rattle.sheet.specs.Graph.{Graph, parcels, row_start, row_end, parcel_right, InRow, row, entries}
use Rattle.std.specs.declared.ops.Range.{Range}
use Rattle.sheet.proofs.Facts.{parcel_facts}

-- one of a range and the empty one
within_either : (b : Bool) (s e n : ℕ) → (b ≡ true → (s ≤ e) × (e ≤ n)) → let r : Range ℕ = cond b (record { start = s; end = e }) (record { start = 0; end = 0 }) in (r.start ≤ r.end) × (r.end ≤ n)
within_either true s e n inside = inside refl
within_either false s e n inside = (omega arith, omega arith)

within_one : {P : Type 0} (b : Bool) (s e p : ℕ) → let r : Range ℕ = cond b (record { start = s; end = e }) (record { start = 0; end = 0 }) in r.start ≤ p → p < r.end → (b ≡ true → s ≤ p → p < e → P) → P
within_one true s e p from to inside = inside refl from to
within_one false s e p from to inside = absurd (omega (arith, to))

module _ {K : Type 0} (t : Graph K) where
  -- the places of a row's range stand in the row
  pub from_range : (u p : ℕ) → (row t u).start ≤ p → p < (row t u).end → InRow t u p
  from_range u p from to =
      within_one (ltb u (parcels t)) (row_start t u) (row_end t u) p from to
      (λ less a b. record { parcel = ltb-true u (parcels t) less; from = a; to = b })

  -- and there are no others in it
  pub in_range : (u p : ℕ) → InRow t u p → ((row t u).start ≤ p) × (p < (row t u).end)
  in_range u p there = rw (lt-ltb u (parcels t) there.parcel) (there.from, there.to)

module _ {K : Type 0} (t : Graph K) (rows : (u : ℕ) → u < parcels t → parcel_right t u ≡ true) where
  -- a later row begins no earlier
  later_by : (k v : ℕ) → v + k ≤ parcels t → row_start t v ≤ row_start t (v + k)
  later_by zero v fits = let e : v + 0 ≡ v = omega arith in subst (λ w. row_start t v ≤ row_start t w) (sym e) (omega arith)
  later_by (suc k) v fits =
      let before = later_by k v (omega arith) in
      let facts = parcel_facts t (v + k) (rows (v + k) (omega arith)) in
      let e : v + suc k ≡ (v + k) + 1 = omega arith in
      subst (λ w. row_start t v ≤ row_start t w) (sym e) (omega (arith, before, facts.forward))

  pub later_row : (v u : ℕ) → v ≤ u → u ≤ parcels t → row_start t v ≤ row_start t u
  later_row v u less fits = let e : v + (u - v) ≡ u = omega arith in subst (λ w. row_start t v ≤ row_start t w) e (later_by (u - v) v (omega arith))

  -- a row ends before a later one begins
  pub row_before : (v u : ℕ) → v < u → u ≤ parcels t → row_end t v ≤ row_start t u
  row_before v u less fits = later_row (v + 1) u (omega arith) fits

  pub one_row : (v u p : ℕ) → InRow t v p → InRow t u p → v ≡ u
  one_row v u p a b =
      ⊎_elim (λ e. e)
      (⊎_elim
      (λ l. absurd (omega (arith, row_before v u l (omega (arith, b.parcel)), a.to, b.from)))
      (λ l. absurd (omega (arith, row_before u v l (omega (arith, a.parcel)), b.to, a.from))))
      (cases_order v u)

  -- what holds before place p, and at p in row u, holds before p + 1
  pub before_more : (P : ℕ → ℕ → Type 0) (u p : ℕ) → InRow t u p → ((v q : ℕ) → InRow t v q → q < p → P v q) → P u p → (v q : ℕ) → InRow t v q → q < p + 1 → P v q
  before_more P u p here before now v q there less =
      ⊎_elim (λ l. before v q there l)
      (λ l. let e : p ≡ q = omega arith in
      subst (λ x. P v x) e (subst (λ w. P w p) (one_row u v p here (subst (λ x. InRow t v x) (sym e) there)) now))
      (cases_lt q p)

  -- every place of a row stands before the end of the rows
  pub before_all : (v q : ℕ) → InRow t v q → q < row_start t (parcels t)
  before_all v q there = omega (arith, there.to, later_row (v + 1) (parcels t) (omega (arith, there.parcel)) (omega arith))

  -- a row lies among the entries
  pub row_within : (u : ℕ) → ((row t u).start ≤ (row t u).end) × ((row t u).end ≤ entries t)
  row_within u =
      let inside : ltb u (parcels t) ≡ true → (row_start t u ≤ row_end t u) × (row_end t u ≤ entries t) =
      λ less. let facts = parcel_facts t u (rows u (ltb-true u (parcels t) less)) in (facts.forward, facts.within) in
      within_either (ltb u (parcels t)) (row_start t u) (row_end t u) (entries t) inside
