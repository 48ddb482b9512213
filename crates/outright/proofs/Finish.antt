-- When nobody is left to settle, the records hold the greedy pairing. Assumes nothing.
use Rattle.std.proofs.Common.{◌≡◌, ℕ, zero, suc, ◌<◌, Bool, true, ◌&&◌, eqb, ◌⊎◌, List, count_by, filter, sym, refl, ap, ◌∙◌, subst, inl, inr, ⊎_elim, arith}
use Rattle.std.proofs.lemmas.Bool.{and_parts, and_from, eq-eqb, eqb-true, or_cases, cases_eq, cases_lt, cases_Bool}
use Rattle.std.proofs.lemmas.Bool.Decides.{nat_tests}
use Rattle.ranking.specs.Law.{Lawful}
use Rattle.matching.specs.Pairs.{Pair, holds, touch, ◌∈◌, Disjoint, Ordered}
use Rattle.matching.specs.Stable.{Beaten, Stable}
use Rattle.matching.proofs.Members.{kept_was, kept_stays, count_lt}
use Rattle.matching.proofs.Greedy.{greedy_stable}
use Rattle.matching.proofs.Stable.{only_one}
use Rattle.sheet.specs.Graph.{Graph, parcels, other, InRow, mirror}
use Rattle.sheet.specs.Check.{Sound, Alike}
use Rattle.pairing.specs.Pairs.{joint, sheet_pairs}
use Rattle.pairing.specs.Above.{above, entry_above, greedy_pairing}
use Rattle.pairing.proofs.Entries.{other_below, other_not_own, mirror_in, mirror_names}
use Rattle.pairing.proofs.Members.{joint_back, joint_up, joint_left, joint_shares, pair_in, pair_from}
use Rattle.pairing.proofs.Orders.{above_ordered, row_above}
use Rattle.records.specs.Records.{state, chosen_place, chosen, RecordsPair, Entire}
use Rattle.records.specs.declared.record.Record.{Record}
use Rattle.outright.specs.Pointing.{Settled, Kept}
use Rattle.outright.proofs.Keeping.{below_choice, either_above}

-- a parcel of a pair is one of the two
held_by : (q : Pair) (x : ℕ) → holds q x ≡ true → (q.lo ≡ x) ⊎ (q.hi ≡ x)
held_by q x h = grind (arith, nat_tests)

-- pairs that touch hold a parcel together
shared : (p q : Pair) → touch p q ≡ true → (x : ℕ) × (holds p x ≡ true) × (holds q x ≡ true)
shared p q h =
    ⊎_elim (λ a. (p.lo, grind (arith, nat_tests), a)) (λ a. (p.hi, grind (arith, nat_tests), a)) (or_cases (holds q p.lo) (holds q p.hi) h)

module _ {K : Type 0} (atleast : K → K → Bool) (laws : Lawful atleast) (t : Graph K) (sound : Sound t) (same : Alike atleast t)
    (rs : List Record) (kept : Kept atleast t rs) (settled : (u : ℕ) → u < parcels t → Settled rs u)
    (renewed : (u : ℕ) → u < parcels t → state rs u ≡ 1 → state rs (chosen t rs u) ≡ 2 → ⊥) where
  -- the pair that u holds
  abbrev own : ℕ → Pair
  own u = joint u (chosen t rs u)

  ordered : Ordered (above atleast t)
  ordered = above_ordered atleast laws t

  -- how many pairs stand above
  abbrev rank : Pair → ℕ
  rank p = count_by (λ x. above atleast t x p) (sheet_pairs t)

  rank_falls : (y x : ℕ) → own y ∈ sheet_pairs t → above atleast t (own y) (own x) ≡ true → rank (own y) < rank (own x)
  rank_falls y x m higher =
      count_lt (λ z. above atleast t z (own y)) (λ z. above atleast t z (own x)) (λ z over. ordered.passes_on z (own y) (own x) over higher) (sheet_pairs t) (own y) (ordered.not_itself (own y)) higher m

  -- nobody waits: a parcel that does is waited for by none, and waits at one whose own choice stands higher
  nobody_waits : (n x : ℕ) → x < parcels t → state rs x ≡ 1 → rank (own x) < n → ⊥
  nobody_waits zero x less one low = omega arith
  nobody_waits (suc n) x less one low =
      let y = chosen t rs x in
      let px = chosen_place t rs x in
      let here : InRow t x px = (kept.best x less (inl one)).within in
      let m = mirror t x px in
      let there : InRow t y m = mirror_in t sound x px here in
      let back : other t m ≡ x = mirror_names t sound x px here in
      let y-less : y < parcels t = other_below t sound x px here in
      let x-free : state rs (other t m) ≡ 2 → ⊥ = λ two. omega (arith, ap (state rs) back, two, one) in
      ⊎_elim
      (⊎_elim
      (λ waits. let py = chosen_place t rs y in
      let best = kept.best y y-less (inl waits) in
      ⊎_elim (λ e. kept.unmet x less one waits (ap (other t) (sym e) ∙ back))
      (λ n-m. let over : entry_above atleast t py m ≡ true = best.over m there x-free n-m in
      let higher : above atleast t (own y) (joint y (other t m)) ≡ true = row_above atleast laws t sound same y py m best.within there ∙ over in
      let mine : joint y (other t m) ≡ own x = ap (joint y) back ∙ joint_back y x in
      let falls = rank_falls y x (pair_in t sound y py best.within) (subst (λ p. above atleast t (own y) p ≡ true) mine higher) in
      nobody_waits n y y-less waits (omega arith))
      (cases_eq m py))
      (λ two. renewed x less one two))
      (λ three. x-free ((kept.bare y y-less three).taken m there))
      (settled y y-less)

  no_waits : (x : ℕ) → x < parcels t → state rs x ≡ 1 → ⊥
  no_waits x less one = nobody_waits (suc (rank (own x))) x less one (omega arith)

  -- the lower parcel of q records it
  abbrev recorded : Pair → Bool
  recorded q = eqb (state rs q.lo) 2 && eqb (chosen t rs q.lo) q.hi

  -- the recorded pairs
  abbrev M : List Pair
  M = filter recorded (sheet_pairs t)

  -- a recorded pair is recorded at both parcels
  record Both (q : Pair) : Type 0 where
    rising : q.lo < q.hi
    lower : RecordsPair t rs q.lo q.hi
    higher : RecordsPair t rs q.hi q.lo

  both : (q : Pair) → q ∈ M → Both q
  both q m =
      let was = kept_was recorded (sheet_pairs t) q m in
      let sides = pair_from t sound q was.0 in
      let tests = and_parts (eqb (state rs q.lo) 2) (eqb (chosen t rs q.lo) q.hi) was.1 in
      let two = eqb-true (state rs q.lo) 2 tests.0 in
      let with-hi = eqb-true (chosen t rs q.lo) q.hi tests.1 in
      let less = sides.within.parcel in
      record {
        rising = sides.rising;
        lower = record { parcel = less; paired = two; within = (kept.best q.lo less (inr two)).within.to; with' = with-hi };
        higher = subst (λ y. RecordsPair t rs y q.lo) with-hi (kept.both q.lo less two);
      }

  recorded_up : (u v : ℕ) → u < v → state rs u ≡ 2 → chosen t rs u ≡ v → joint u v ∈ sheet_pairs t → joint u v ∈ M
  recorded_up u v up two is m =
      kept_stays recorded (sheet_pairs t) (joint u v)
      (subst (λ q. recorded q ≡ true) (sym (joint_up u v up)) (and_from (eqb (state rs u) 2) (eqb (chosen t rs u) v) (eq-eqb (state rs u) 2 two) (eq-eqb (chosen t rs u) v is))) m

  -- the pair of a paired parcel is recorded
  own_in : (u : ℕ) → u < parcels t → state rs u ≡ 2 → own u ∈ M
  own_in u less two =
      let v = chosen t rs u in
      let here = (kept.best u less (inr two)).within in
      let m = pair_in t sound u (chosen_place t rs u) here in
      let back = kept.both u less two in
      ⊎_elim (λ up. recorded_up u v up two refl m)
      (λ down. let below : v < u = ⊎_elim (λ e. absurd (other_not_own t sound u (chosen_place t rs u) here e)) (λ n. omega arith) (cases_eq v u) in
      subst (λ q. q ∈ M) (joint_back v u) (recorded_up v u below back.paired back.with' (subst (λ q. q ∈ sheet_pairs t) (joint_back u v) m)))
      (cases_lt u v)

  -- a recorded pair is the own pair of each of its parcels
  own_is : (q : Pair) (x : ℕ) → q ∈ M → holds q x ≡ true → q ≡ own x
  own_is q x m h =
      let b = both q m in
      let whole = joint_up q.lo q.hi b.rising in
      ⊎_elim
      (λ e. sym (ap own (sym e) ∙ ap (joint q.lo) b.lower.with' ∙ whole))
      (λ e. sym (ap own (sym e) ∙ ap (joint q.hi) b.higher.with' ∙ joint_back q.hi q.lo ∙ whole))
      (held_by q x h)

  apart : Disjoint M
  apart p q p-in q-in touching = let s = shared p q touching in own_is p s.0 p-in s.1 ∙ sym (own_is q s.0 q-in s.2)

  -- a paired parcel's choice beats what stands below it in the row
  beats : (x m : ℕ) → state rs x ≡ 2 → InRow t x m → entry_above atleast t (chosen_place t rs x) m ≡ true → Beaten (above atleast t) M (joint x (other t m))
  beats x m two there over = record {
    winner = own x;
    chosen = own_in x there.parcel two;
    touches = joint_shares x (chosen t rs x) (other t m);
    higher = row_above atleast laws t sound same x (chosen_place t rs x) m (kept.best x there.parcel (inr two)).within there ∙ over;
  }

  -- the same seen from the other parcel
  beats_back : (u p : ℕ) → InRow t u p → state rs (other t p) ≡ 2 → entry_above atleast t (chosen_place t rs (other t p)) (mirror t u p) ≡ true → Beaten (above atleast t) M (joint u (other t p))
  beats_back u p within two over =
      let x = other t p in
      subst (Beaten (above atleast t) M) (ap (joint x) (mirror_names t sound u p within) ∙ joint_back x u) (beats x (mirror t u p) two (mirror_in t sound u p within) over)

  settled_at : (u p : ℕ) → InRow t u p → (joint u (other t p) ∈ M) ⊎ Beaten (above atleast t) M (joint u (other t p))
  settled_at u p within =
      let less = within.parcel in
      let c = chosen_place t rs u in
      ⊎_elim
      (λ two. ⊎_elim (λ e. inl (subst (λ x. joint u (other t x) ∈ M) (sym e) (own_in u less two)))
      (λ n. inr (⊎_elim (beats u p two within)
      (λ low. let a = kept.answered u p within two (either_above atleast laws t c p (λ e. n (sym e)) low) in beats_back u p within a.paired a.higher)
      (cases_Bool (entry_above atleast t c p))))
      (cases_eq p c))
      (λ unpaired.
      ⊎_elim (⊎_elim (λ one. absurd (no_waits u less one)) (λ two. absurd (unpaired two)))
      (λ three. let two = (kept.bare u less three).taken p within in
      inr (beats_back u p within two (below_choice atleast laws t sound rs kept u p within unpaired two)))
      (settled u less))
      (cases_eq (state rs u) 2)

  stable : Stable (above atleast t) (sheet_pairs t) M
  stable = record {
    within = λ p m. (kept_was recorded (sheet_pairs t) p m).0;
    apart = apart;
    settled = λ q m.
        let sides = pair_from t sound q m in
        let is : joint q.lo (other t sides.place) ≡ q = ap (joint q.lo) sides.names ∙ joint_up q.lo q.hi sides.rising in
        subst (λ x. (x ∈ M) ⊎ Beaten (above atleast t) M x) is (settled_at q.lo sides.place sides.within);
  }

  greedy_recorded : (p : Pair) → p ∈ greedy_pairing atleast t → p ∈ M
  greedy_recorded p = (only_one (above atleast t) (sheet_pairs t) M (greedy_pairing atleast t) ordered stable (greedy_stable (above atleast t) (sheet_pairs t) ordered) p).1

  recorded_greedy : (p : Pair) → p ∈ M → p ∈ greedy_pairing atleast t
  recorded_greedy p = (only_one (above atleast t) (sheet_pairs t) M (greedy_pairing atleast t) ordered stable (greedy_stable (above atleast t) (sheet_pairs t) ordered) p).0

  pub finish : Entire t rs (greedy_pairing atleast t)
  finish = record {
    long = kept.long;
    lower = λ p m. (both p (greedy_recorded p m)).lower;
    higher = λ p m. (both p (greedy_recorded p m)).higher;
    alone = λ u less none.
        ⊎_elim (⊎_elim (λ one. absurd (no_waits u less one)) (λ two. absurd (none (own u) (recorded_greedy (own u) (own_in u less two)) (joint_left u (chosen t rs u)))))
        (λ three. record { lone = three; none = (kept.bare u less three).none }) (settled u less);
  }
