-- What one settling changes, parcel by parcel. Assumes nothing.
use Rattle.std.proofs.Common.{◌≡◌, ℕ, ◌+◌, ◌-◌, ◌<◌, Bool, true, false, not, eqb, ltb, ◌⊎◌, List, length, set, sym, refl, ap, ◌∙◌, subst, inl, inr, ⊎_elim, arith, length-set}
use Rattle.std.proofs.lemmas.List.{get_or-set_same, get_or-set_other}
use Rattle.std.proofs.lemmas.Bool.{and_parts, and_from, lt-ltb, not-true, not_from_false, ne_eqb, eqb-false, cases_eq, both_ways}
use Rattle.sheet.specs.Graph.{Graph, parcels, entries, row_start, other, InRow}
use Rattle.sheet.specs.Check.{Sound}
use Rattle.pairing.proofs.Entries.{other_below, other_not_own, place_below}
use Rattle.choosing.specs.Top.{Top}
use Rattle.records.specs.Records.{record_of, state, choice, chosen_place, chosen, RecordsPair}
use Rattle.records.specs.declared.record.Record.{Record}
use Rattle.outright.specs.Pointing.{free, Best, Kept}
use Rattle.outright.specs.Settling.{Settles, stays_lone, waits, pairs}

-- one record is written
record One (v : ℕ) (r : Record) (rs rs' : List Record) : Type 0 where
  mine : record_of rs' v ≡ r
  theirs : (x : ℕ) → (x ≡ v → ⊥) → record_of rs' x ≡ record_of rs x

one : (v : ℕ) (r : Record) (rs : List Record) → v < length rs → One v r rs (set rs v r)
one v r rs less = record { mine = get_or-set_same rs v r _ less; theirs = λ x n. get_or-set_other rs v x r _ n }

module _ {K : Type 0} (t : Graph K) (sound : Sound t) (rs : List Record) where
  free_not : (u q : ℕ) → InRow t u q → free t rs q ≡ true → state rs (other t q) ≡ 2 → ⊥
  free_not u q within is = eqb-false (state rs (other t q)) 2 (not-true (eqb (state rs (other t q)) 2) (and_parts (ltb q (entries t)) (not (eqb (state rs (other t q)) 2)) is).1)

  not_free : (u q : ℕ) → InRow t u q → (state rs (other t q) ≡ 2 → ⊥) → free t rs q ≡ true
  not_free u q within n =
      and_from (ltb q (entries t)) (not (eqb (state rs (other t q)) 2)) (lt-ltb q (entries t) (place_below t sound u q within)) (not_from_false (eqb (state rs (other t q)) 2) (ne_eqb (state rs (other t q)) 2 n))

  -- no entry is free: every other is paired
  all_taken : (u : ℕ) → ((q : ℕ) → InRow t u q → free t rs q ≡ false) → (q : ℕ) → InRow t u q → state rs (other t q) ≡ 2
  all_taken u none q within =
      ⊎_elim (λ e. e) (λ n. absurd (both_ways (free t rs q) (none q within) (not_free u q within n))) (cases_eq (state rs (other t q)) 2)

  top_best : (atleast : K → K → Bool) (u p : ℕ) → Top atleast t (free t rs) u p → Best atleast t rs u p
  top_best atleast u p top = record { within = top.within; over = λ q there n. top.over q there (not_free u q there n) }

module _ {K : Type 0} (atleast : K → K → Bool) (t : Graph K) where
  -- what has become of parcel x: nothing; it was found lone; it waits at its best entry; or it is paired there
  pub data Now (v : ℕ) (rs rs' : List Record) (x : ℕ) : Type 0 where
    same : (x ≡ v → ⊥) → record_of rs' x ≡ record_of rs x → Now v rs rs' x
    lone : (state rs x ≡ 2 → ⊥) → x ≡ v → state rs' x ≡ 3 → choice rs' x ≡ 0 → ((q : ℕ) → InRow t x q → state rs (other t q) ≡ 2) → Now v rs rs' x
    waiting : (state rs x ≡ 2 → ⊥) → x ≡ v → state rs' x ≡ 1 → Best atleast t rs x (chosen_place t rs' x) → (state rs (chosen t rs' x) ≡ 2 → ⊥)
        → (state rs (chosen t rs' x) ≡ 1 → chosen t rs (chosen t rs' x) ≡ x → ⊥) → Now v rs rs' x
    paired : (state rs x ≡ 2 → ⊥) → (x ≡ v) ⊎ (state rs x ≡ 1) → state rs' x ≡ 2 → Best atleast t rs x (chosen_place t rs' x) → RecordsPair t rs' (chosen t rs' x) x → Now v rs rs' x

module _ {K : Type 0} (atleast : K → K → Bool) (t : Graph K) (sound : Sound t) (rs : List Record) (kept : Kept atleast t rs) (v : ℕ) (parcel : v < parcels t) (unpaired : state rs v ≡ 2 → ⊥) where
  -- the place of a choice that was made at p
  place_of_choice : (rs' : List Record) (p : ℕ) → InRow t v p → choice rs' v ≡ p - row_start t v → chosen_place t rs' v ≡ p
  place_of_choice rs' p within e = omega (arith, e, within.from)

  lone_now : (rs' : List Record) → One v (record { state = 3; choice = 0 }) rs rs' → ((q : ℕ) → InRow t v q → free t rs q ≡ false) → (x : ℕ) → Now atleast t v rs rs' x
  lone_now rs' o none x =
      ⊎_elim
      (λ e. let is : record_of rs' x ≡ record { state = 3; choice = 0 } = ap (record_of rs') e ∙ o.mine in
      lone (λ two. unpaired (ap (state rs) (sym e) ∙ two)) e (ap (λ (r : Record). r.state) is) (ap (λ (r : Record). r.choice) is) (subst (λ y. (q : ℕ) → InRow t y q → state rs (other t q) ≡ 2) (sym e) (all_taken t sound rs v none)))
      (λ n. same n (o.theirs x n)) (cases_eq x v)

  waits_now : (rs' : List Record) (p : ℕ) → One v (record { state = 1; choice = p - row_start t v }) rs rs' → Top atleast t (free t rs) v p
      → (state rs (other t p) ≡ 1 → chosen t rs (other t p) ≡ v → ⊥) → (x : ℕ) → Now atleast t v rs rs' x
  waits_now rs' p o top unmet x =
      let place : chosen_place t rs' v ≡ p = place_of_choice rs' p top.within (ap (λ (r : Record). r.choice) o.mine) in
      let here : Now atleast t v rs rs' v =
      waiting unpaired refl (ap (λ (r : Record). r.state) o.mine) (subst (Best atleast t rs v) (sym place) (top_best t sound rs atleast v p top))
      (subst (λ y. state rs (other t y) ≡ 2 → ⊥) (sym place) (free_not t sound rs v p top.within top.candidate))
      (subst (λ y. state rs (other t y) ≡ 1 → chosen t rs (other t y) ≡ v → ⊥) (sym place) unmet) in
      ⊎_elim (λ e. subst (Now atleast t v rs rs') (sym e) here) (λ n. same n (o.theirs x n)) (cases_eq x v)

  pairs_now : (rs' : List Record) (p : ℕ) → Top atleast t (free t rs) v p → state rs (other t p) ≡ 1 → chosen t rs (other t p) ≡ v
      → record_of rs' v ≡ record { state = 2; choice = p - row_start t v } → record_of rs' (other t p) ≡ record { state = 2; choice = choice rs (other t p) }
      → ((x : ℕ) → (x ≡ v → ⊥) → (x ≡ other t p → ⊥) → record_of rs' x ≡ record_of rs x) → (x : ℕ) → Now atleast t v rs rs' x
  pairs_now rs' p top waited for-v mine its theirs x =
      let w = other t p in
      let below : w < parcels t = other_below t sound v p top.within in
      let held = kept.best w below (inl waited) in
      let place-v : chosen_place t rs' v ≡ p = place_of_choice rs' p top.within (ap (λ (r : Record). r.choice) mine) in
      let place-w : chosen_place t rs' w ≡ chosen_place t rs w = ap (λ (r : Record). row_start t w + r.choice) its in
      let chosen-v : chosen t rs' v ≡ w = ap (other t) place-v in
      let chosen-w : chosen t rs' w ≡ v = ap (other t) place-w ∙ for-v in
      let two-v : state rs' v ≡ 2 = ap (λ (r : Record). r.state) mine in
      let two-w : state rs' w ≡ 2 = ap (λ (r : Record). r.state) its in
      let records-w : RecordsPair t rs' w v = record { parcel = below; paired = two-w; within = omega (arith, place-w, held.within.to); with' = chosen-w } in
      let records-v : RecordsPair t rs' v w = record { parcel = parcel; paired = two-v; within = omega (arith, place-v, top.within.to); with' = chosen-v } in
      let at-v : Now atleast t v rs rs' v =
      paired unpaired (inl refl) two-v (subst (Best atleast t rs v) (sym place-v) (top_best t sound rs atleast v p top)) (subst (λ y. RecordsPair t rs' y v) (sym chosen-v) records-w) in
      let at-w : Now atleast t v rs rs' w = paired (λ two. omega (arith, two, waited)) (inr waited) two-w (subst (Best atleast t rs w) (sym place-w) held) (subst (λ y. RecordsPair t rs' y w) (sym chosen-w) records-v) in
      ⊎_elim (λ e. subst (Now atleast t v rs rs') (sym e) at-v) (λ n. ⊎_elim (λ e. subst (Now atleast t v rs rs') (sym e) at-w) (λ m. same n (theirs x n m)) (cases_eq x w)) (cases_eq x v)

  -- each parcel is as a settling leaves it
  pub settles_now : (work : List ℕ) (k : ℕ) (rs' : List Record) (work' : List ℕ) (k' : ℕ) → Settles atleast t v rs work k rs' work' k' → (x : ℕ) → Now atleast t v rs rs' x
  settles_now work k rs' work' k' (stays_lone none is _ _) x =
      let long : v < length rs = omega (arith, kept.long) in
      lone_now rs' (subst (One v (record { state = 3; choice = 0 }) rs) (sym is) (one v (record { state = 3; choice = 0 }) rs long)) none x
  settles_now work k rs' work' k' (waits p top unmet is _ _) x =
      let long : v < length rs = omega (arith, kept.long) in
      let r : Record = record { state = 1; choice = p - row_start t v } in
      waits_now rs' p (subst (One v r rs) (sym is) (one v r rs long)) top unmet x
  settles_now work k rs' work' k' (pairs p top waited for-v is _ _) x =
      let w = other t p in
      let long : v < length rs = omega (arith, kept.long) in
      let far : w < length rs = omega (arith, kept.long, other_below t sound v p top.within) in
      let r : Record = record { state = 2; choice = p - row_start t v } in
      let s : Record = record { state = 2; choice = choice rs w } in
      let first = one v r rs long in
      let second = one w s (set rs v r) (omega (arith, length-set rs v r)) in
      let apart : v ≡ w → ⊥ = λ e. other_not_own t sound v p top.within (sym e) in
      pairs_now rs' p top waited for-v (ap (λ l. record_of l v) is ∙ second.theirs v apart ∙ first.mine) (ap (λ l. record_of l w) is ∙ second.mine)
      (λ y n m. ap (λ l. record_of l y) is ∙ second.theirs y m ∙ first.theirs y n) x
