-- What is recorded belongs to the greedy pairing, and a settled round records it entire. Assumes nothing.
use Rattle.std.proofs.Common.{◌≡◌, ℕ, zero, suc, ◌+◌, ◌<◌, ◌≤◌, Bool, true, eqb, ◌⊎◌, List, map, length, filter, sym, ap, ◌∙◌, subst, inl, inr, ⊎_elim, arith}
use Rattle.std.specs.List.{range_with_len}
use Rattle.std.proofs.lemmas.Bool.{both_ways, eqb-true, eq-eqb, cases_eq}
use Rattle.ranking.specs.Law.{Lawful}
use Rattle.matching.specs.Pairs.{Pair, holds, touch, ◌∈◌}
use Rattle.matching.specs.Stable.{Beaten, Backed, Stable}
use Rattle.matching.proofs.In.{in_map, map_in}
use Rattle.matching.proofs.Members.{kept_was, kept_stays, holders_touch}
use Rattle.matching.proofs.Greedy.{greedy_stable}
use Rattle.matching.proofs.Stable.{backed_greedy}
use Rattle.sheet.specs.Graph.{Graph, InRow, parcels, other, mirror, row_end}
use Rattle.sheet.specs.Check.{Sound, Alike}
use Rattle.pairing.specs.Pairs.{joint, sheet_pairs}
use Rattle.pairing.specs.Above.{above, greedy_pairing}
use Rattle.pairing.proofs.Members.{pair_in, pair_from, joint_up, joint_back, joint_left}
use Rattle.pairing.proofs.Orders.{above_ordered}
use Rattle.records.specs.declared.record.Record.{Record}
use Rattle.records.specs.Records.{state, chosen_place, RecordsPair, Entire}
use Rattle.records.specs.Listed.{lower_pairs}
use Rattle.records.proofs.Laws.{pairs_listed}
use Rattle.protocol.proofs.Core.{Core, Inv, Out, pair_at}
use Rattle.protocol.proofs.Entries.{joint_holds}
use Rattle.protocol.proofs.Step.{joint_other}

-- the numbers below n
counting_in : (n a u : ℕ) → a ≤ u → u < a + n → u ∈ range_with_len a n
counting_in zero a u low high = absurd (omega arith)
counting_in (suc n) a u low high = ⊎_elim (λ e. inl e) (λ not. inr (counting_in n (a + 1) u (omega arith) (omega arith))) (cases_eq u a)

in_counting : (n a u : ℕ) → u ∈ range_with_len a n → u < a + n
in_counting zero a u i = absurd i
in_counting (suc n) a u (inl e) = omega arith
in_counting (suc n) a u (inr i) = omega (arith, in_counting n (a + 1) u i)

module _ {K : Type 0} (atleast : K → K → Bool) (laws : Lawful atleast) (t : Graph K) (sound : Sound t) (alike : Alike atleast t) (c : Core) (inv : Inv atleast t c) where
  -- the pairs that some parcel records
  abbrev recorded : List Pair
  recorded = map (λ u. pair_at atleast t u (c.at u)) (filter (λ u. eqb (c.st u) 2) (range_with_len 0 (parcels t)))

  is_recorded : (u : ℕ) → u < parcels t → c.st u ≡ 2 → pair_at atleast t u (c.at u) ∈ recorded
  is_recorded u b z = in_map (λ x. pair_at atleast t x (c.at x)) _ u (kept_stays (λ x. eqb (c.st x) 2) (range_with_len 0 (parcels t)) u (eq-eqb (c.st u) 2 z) (counting_in (parcels t) 0 u (omega arith) (omega arith)))

  record By (q : Pair) : Type 0 where
    parcel : ℕ
    below : parcel < parcels t
    paired : c.st parcel ≡ 2
    is : q ≡ pair_at atleast t parcel (c.at parcel)

  recorded_by : (q : Pair) → q ∈ recorded → By q
  recorded_by q i =
      let k = map_in (λ x. pair_at atleast t x (c.at x)) _ q i in
      let j = kept_was (λ x. eqb (c.st x) 2) (range_with_len 0 (parcels t)) k.0 k.1 in
      record { parcel = k.0; below = omega (arith, in_counting (parcels t) 0 k.0 j.0); paired = eqb-true (c.st k.0) 2 j.1; is = k.2 }

  out_beaten : (q : Pair) → Out atleast t c.st c.at q → Beaten (above atleast t) recorded q
  out_beaten q o = record { winner = pair_at atleast t o.by (c.at o.by); chosen = is_recorded o.by o.parcel o.paired; touches = o.touches; higher = o.higher }

  -- a pair of the sheet is the pair of an entry of its lower parcel, and of one of its higher parcel
  record Sided (q : Pair) : Type 0 where
    low : ℕ
    low_in : InRow t q.lo low
    low_is : q ≡ pair_at atleast t q.lo low
    high : ℕ
    high_in : InRow t q.hi high
    high_is : q ≡ pair_at atleast t q.hi high
    rising : q.lo < q.hi

  sided : (q : Pair) → q ∈ sheet_pairs t → Sided q
  sided q i =
      let s = pair_from t sound q i in
      let up : q ≡ joint q.lo q.hi = sym (joint_up q.lo q.hi s.rising) in
      record {
        low = s.place;
        low_in = s.within;
        low_is = up ∙ ap (joint q.lo) (sym s.names);
        high = mirror t q.lo s.place;
        high_in = s.mirrored;
        high_is = up ∙ joint_back q.lo q.hi ∙ ap (joint q.hi) (sym s.names_back);
        rising = s.rising;
      }

  backed : Backed (above atleast t) (sheet_pairs t) recorded
  backed = record {
    within = λ q i. let b = recorded_by q i in subst (λ x. x ∈ sheet_pairs t) (sym b.is) (pair_in t sound b.parcel (c.at b.parcel) (inv.in_row b.parcel b.below (inr b.paired)));
    answered = λ q r i j h a.
        let b = recorded_by r j in
        let s = sided q i in
        subst (Beaten (above atleast t) recorded) (sym s.low_is)
        (out_beaten (pair_at atleast t q.lo s.low)
        (inv.pair_first b.parcel b.below b.paired q.lo s.low s.low_in
        (subst (λ x. touch x (pair_at atleast t b.parcel (c.at b.parcel)) ≡ true) s.low_is (subst (λ x. touch q x ≡ true) b.is h))
        (subst (λ x. above atleast t x (pair_at atleast t b.parcel (c.at b.parcel)) ≡ true) s.low_is (subst (λ x. above atleast t q x ≡ true) b.is a))));
  }

  stable : Stable (above atleast t) (sheet_pairs t) (greedy_pairing atleast t)
  stable = greedy_stable (above atleast t) (sheet_pairs t) (above_ordered atleast laws t)

  -- a recorded pair is greedy
  pub recorded_greedy : (u : ℕ) → u < parcels t → c.st u ≡ 2 → pair_at atleast t u (c.at u) ∈ greedy_pairing atleast t
  recorded_greedy u b z = backed_greedy (above atleast t) (sheet_pairs t) recorded (above_ordered atleast laws t) backed (pair_at atleast t u (c.at u)) (is_recorded u b z)

  -- a pair that is out is not greedy
  out_not_greedy : (q : Pair) → Out atleast t c.st c.at q → q ∈ greedy_pairing atleast t → ⊥
  out_not_greedy q o g =
      let r = pair_at atleast t o.by (c.at o.by) in
      let e : r ≡ q = stable.apart r q (recorded_greedy o.by o.parcel o.paired) g o.touches in
      both_ways (above atleast t q q) ((above_ordered atleast laws t).not_itself q) (subst (λ x. above atleast t x q ≡ true) e o.higher)

  -- a greedy pair at u is the pair of an entry of u
  record At (u : ℕ) (q : Pair) : Type 0 where
    place : ℕ
    within : InRow t u place
    is : q ≡ pair_at atleast t u place

  greedy_at : (u : ℕ) (q : Pair) → q ∈ greedy_pairing atleast t → holds q u ≡ true → At u q
  greedy_at u q g h =
      let s = sided q (stable.within q g) in
      ⊎_elim
      (λ (e : u ≡ q.lo). subst (λ x. At x q) (sym e) (record { place = s.low; within = s.low_in; is = s.low_is }))
      (λ (e : u ≡ q.hi). subst (λ x. At x q) (sym e) (record { place = s.high; within = s.high_in; is = s.high_is }))
      (joint_holds q.lo q.hi u (subst (λ x. holds x u ≡ true) (sym (joint_up q.lo q.hi s.rising)) h))

  -- a parcel recorded lone is in no greedy pair
  pub lone_greedy : (u : ℕ) → u < parcels t → c.st u ≡ 3 → (q : Pair) → q ∈ greedy_pairing atleast t → holds q u ≡ true → ⊥
  lone_greedy u b z q g h =
      let a = greedy_at u q g h in
      out_not_greedy q (subst (Out atleast t c.st c.at) (sym a.is) (inv.struck_out u a.place a.within (inv.lone_struck u b z a.place a.within))) g

  -- where every parcel is paired or lone, a greedy pair is recorded at each of its parcels
  pub greedy_recorded : (u v : ℕ) → u < parcels t → (c.st u ≡ 2) ⊎ (c.st u ≡ 3) → (q : Pair) → q ∈ greedy_pairing atleast t → q ≡ joint u v → (c.st u ≡ 2) × (other t (c.at u) ≡ v)
  greedy_recorded u v b decided q g is =
      let mine : holds q u ≡ true = subst (λ x. holds x u ≡ true) (sym is) (joint_left u v) in
      ⊎_elim
      (λ two. (
        two,
        joint_other atleast laws t sound alike u (other t (c.at u)) v
            (stable.apart (pair_at atleast t u (c.at u)) q (recorded_greedy u b two) g (holders_touch (pair_at atleast t u (c.at u)) q u (joint_left u (other t (c.at u))) mine) ∙ is),
      ))
      (λ three. absurd (lone_greedy u b three q g mine)) decided

  -- so the pairing is recorded entire
  module _ (decided : (u : ℕ) → u < parcels t → (c.st u ≡ 2) ⊎ (c.st u ≡ 3)) (rs : List Record) (long : length rs ≡ parcels t) (st : (u : ℕ) → state rs u ≡ c.st u) (at : (u : ℕ) → chosen_place t rs u ≡ c.at u) where
    records_pair : (u v : ℕ) → u < parcels t → (q : Pair) → q ∈ greedy_pairing atleast t → q ≡ joint u v → RecordsPair t rs u v
    records_pair u v b q g is =
        let k = greedy_recorded u v b (decided u b) q g is in
        let row = inv.in_row u b (inr k.0) in
        record { parcel = b; paired = st u ∙ k.0; within = subst (λ p. p < row_end t u) (sym (at u)) row.to; with' = ap (other t) (at u) ∙ k.1 }

    pub entire : Entire t rs (greedy_pairing atleast t)
    entire = record {
      long = long;
      lower = λ q g. let s = sided q (stable.within q g) in records_pair q.lo q.hi s.low_in.parcel q g (sym (joint_up q.lo q.hi s.rising));
      higher = λ q g. let s = sided q (stable.within q g) in records_pair q.hi q.lo s.high_in.parcel q g (sym (joint_up q.lo q.hi s.rising) ∙ joint_back q.lo q.hi);
      alone = λ u b none.
          ⊎_elim
          (λ two. absurd (none (pair_at atleast t u (c.at u)) (recorded_greedy u b two) (joint_left u (other t (c.at u)))))
          (λ three. record { lone = st u ∙ three; none = let e = at u ∙ inv.lone_choice u b three in omega (arith, e) })
          (decided u b);
    }

    -- and the list of recorded pairs is stable
    lower_greedy : (q : Pair) → q ∈ lower_pairs t rs → q ∈ greedy_pairing atleast t
    lower_greedy q i =
        let k = (pairs_listed t rs).sound q i in
        let rec = k.0 in
        let is : pair_at atleast t q.lo (c.at q.lo) ≡ q = ap (λ p. joint q.lo (other t p)) (sym (at q.lo)) ∙ ap (joint q.lo) rec.with' ∙ joint_up q.lo q.hi k.1 in
        subst (λ x. x ∈ greedy_pairing atleast t) is (recorded_greedy q.lo rec.parcel (sym (st q.lo) ∙ rec.paired))

    greedy_lower : (q : Pair) → q ∈ greedy_pairing atleast t → q ∈ lower_pairs t rs
    greedy_lower q g = (pairs_listed t rs).whole q.lo q.hi (entire.lower q g) (sided q (stable.within q g)).rising

    pub lower_stable : Stable (above atleast t) (sheet_pairs t) (lower_pairs t rs)
    lower_stable = record {
      within = λ q i. stable.within q (lower_greedy q i);
      apart = λ p q i j. stable.apart p q (lower_greedy p i) (lower_greedy q j);
      settled = λ q i. ⊎_elim (λ g. inl (greedy_lower q g)) (λ (b : Beaten (above atleast t) (greedy_pairing atleast t) q). inr (record { winner = b.winner; chosen = greedy_lower b.winner b.chosen; touches = b.touches; higher = b.higher })) (stable.settled q i);
    }
