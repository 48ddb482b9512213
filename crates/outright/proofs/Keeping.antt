-- A settling keeps what outright pairing relies on. Assumes nothing.
use Rattle.std.proofs.Common.{◌≡◌, ℕ, ◌+◌, ◌<◌, Bool, true, false, not, ◌&&◌, ◌||◌, ltb, List, length, sym, refl, ap, ◌∙◌, subst, inl, inr, ⊎_elim, arith}
use Rattle.std.proofs.lemmas.Bool.{cases_eq}
use Rattle.std.proofs.lemmas.Bool.Decides.{nat_tests}
use Rattle.ranking.specs.Law.{Lawful, lifted}
use Rattle.ranking.proofs.Lifted.{lifted_lawful}
use Rattle.sheet.specs.Graph.{Graph, parcels, row_start, other, key, InRow, mirror}
use Rattle.sheet.specs.Check.{Sound}
use Rattle.pairing.specs.Above.{entry_above}
use Rattle.pairing.proofs.Entries.{other_below, other_not_own, mirror_in, mirror_names}
use Rattle.records.specs.Records.{record_of, state, chosen_place, chosen, RecordsPair}
use Rattle.records.specs.declared.record.Record.{Record}
use Rattle.outright.specs.Pointing.{Points, Best, Bare, Answered, Kept}
use Rattle.outright.proofs.Changes.{Now, same, lone, waiting, paired}

no_both : (pq qp : Bool) (p q : ℕ) → (qp ≡ false → pq ≡ true) → (not qp || ((pq && qp) && ltb q p)) ≡ true → (not pq || ((qp && pq) && ltb p q)) ≡ true → ⊥
no_both pq qp p q total a b = grind (arith, nat_tests)

one_way : (pq qp : Bool) (p q : ℕ) → (p ≡ q → ⊥) → (qp ≡ false → pq ≡ true) → (not qp || ((pq && qp) && ltb q p)) ≡ false → (not pq || ((qp && pq) && ltb p q)) ≡ true
one_way pq qp p q n total a = grind (arith, nat_tests)

module _ {K : Type 0} (atleast : K → K → Bool) (laws : Lawful atleast) (t : Graph K) where
  -- two entries do not stand above each other
  pub one_above : (p q : ℕ) → entry_above atleast t p q ≡ true → entry_above atleast t q p ≡ true → ⊥
  one_above p q = no_both (lifted atleast (key t p) (key t q)) (lifted atleast (key t q) (key t p)) p q ((lifted_lawful atleast laws).total (key t q) (key t p))

  -- and of two entries one stands above the other
  pub either_above : (p q : ℕ) → (p ≡ q → ⊥) → entry_above atleast t p q ≡ false → entry_above atleast t q p ≡ true
  either_above p q n = one_way (lifted atleast (key t p) (key t q)) (lifted atleast (key t q) (key t p)) p q n ((lifted_lawful atleast laws).total (key t q) (key t p))

module _ {K : Type 0} (atleast : K → K → Bool) (laws : Lawful atleast) (t : Graph K) (sound : Sound t) (rs : List Record) (kept : Kept atleast t rs) where
  -- an unpaired parcel's entry stands below the choice of a paired parcel that it names
  pub below_choice : (u q : ℕ) → InRow t u q → (state rs u ≡ 2 → ⊥) → state rs (other t q) ≡ 2 → entry_above atleast t (chosen_place t rs (other t q)) (mirror t u q) ≡ true
  below_choice u q within unpaired two =
      let x = other t q in
      let m = mirror t u q in
      let back = mirror_names t sound u q within in
      let less = other_below t sound u q within in
      let apart : m ≡ chosen_place t rs x → ⊥ = λ e. unpaired (ap (state rs) (sym back ∙ ap (other t) e) ∙ (kept.both x less two).paired) in
      (kept.best x less (inr two)).over m (mirror_in t sound u q within) (λ e. unpaired (ap (state rs) (sym back) ∙ e)) apart

  -- who stands above the best free entry of an unpaired parcel is paired, with one that stands above
  answers : (u p q : ℕ) → Best atleast t rs u p → (state rs u ≡ 2 → ⊥) → InRow t u q → entry_above atleast t q p ≡ true → Answered atleast t rs u q
  answers u p q best unpaired within over =
      let apart : q ≡ p → ⊥ = λ e. one_above atleast laws t q p over (subst (λ x. entry_above atleast t x q ≡ true) e (subst (λ x. entry_above atleast t q x ≡ true) (sym e) over)) in
      let two : state rs (other t q) ≡ 2 =
      ⊎_elim (λ e. e) (λ n. absurd (one_above atleast laws t q p over (best.over q within n apart))) (cases_eq (state rs (other t q)) 2) in
      record { paired = two; higher = below_choice u q within unpaired two }

  module _ (v : ℕ) (rs' : List Record) (long : length rs' ≡ length rs) (now : (x : ℕ) → Now atleast t v rs rs' x) where
    -- the record of a paired parcel stays
    pub stays : (x : ℕ) → state rs x ≡ 2 → record_of rs' x ≡ record_of rs x
    stays x two = elim (now x) [ same _ e ↦ e | lone n _ _ _ _ ↦ absurd (n two) | waiting n _ _ _ _ _ ↦ absurd (n two) | paired n _ _ _ _ ↦ absurd (n two) ]

    pub still_paired : (x : ℕ) → state rs x ≡ 2 → state rs' x ≡ 2
    still_paired x two = ap (λ (r : Record). r.state) (stays x two) ∙ two

    still_free : (x : ℕ) → (state rs' x ≡ 2 → ⊥) → state rs x ≡ 2 → ⊥
    still_free x n two = n (still_paired x two)

    best_on : (u p : ℕ) → Best atleast t rs u p → Best atleast t rs' u p
    best_on u p best = record { within = best.within; over = λ q there n. best.over q there (still_free (other t q) n) }

    best_now : (u : ℕ) → u < parcels t → Points rs' u → Best atleast t rs' u (chosen_place t rs' u)
    best_now u less points =
        best_on u (chosen_place t rs' u)
        (elim (now u) [
          | same _ e ↦
              let f : (r : Record) → ℕ = λ r. r.state in
              let was : Points rs u = ⊎_elim (λ one. inl (ap f (sym e) ∙ one)) (λ two. inr (ap f (sym e) ∙ two)) points in
              subst (Best atleast t rs u) (ap (λ (r : Record). row_start t u + r.choice) (sym e)) (kept.best u less was)
          | lone _ _ three _ _ ↦ absurd (⊎_elim (λ one. omega (arith, one, three)) (λ two. omega (arith, two, three)) points)
          | waiting _ _ _ best _ _ ↦ best
          | paired _ _ _ best _ ↦ best
        ])

    bare_now : (u : ℕ) → u < parcels t → state rs' u ≡ 3 → Bare t rs' u
    bare_now u less three =
        elim (now u) [
          | same _ e ↦
              let was = kept.bare u less (ap (λ (r : Record). r.state) (sym e) ∙ three) in
              record { none = ap (λ (r : Record). r.choice) e ∙ was.none; taken = λ q there. still_paired (other t q) (was.taken q there) }
          | lone _ _ _ zero taken ↦ record { none = zero; taken = λ q there. still_paired (other t q) (taken q there) }
          | waiting _ _ one _ _ _ ↦ absurd (omega (arith, one, three))
          | paired _ _ two _ _ ↦ absurd (omega (arith, two, three))
        ]

    -- a recorded pair stays recorded
    records_on : (x y : ℕ) → RecordsPair t rs x y → RecordsPair t rs' x y
    records_on x y r =
        let place : chosen_place t rs' x ≡ chosen_place t rs x = ap (λ (r : Record). row_start t x + r.choice) (stays x r.paired) in
        record { parcel = r.parcel; paired = still_paired x r.paired; within = omega (arith, place, r.within); with' = ap (other t) place ∙ r.with' }

    both_now : (u : ℕ) → u < parcels t → state rs' u ≡ 2 → RecordsPair t rs' (chosen t rs' u) u
    both_now u less two =
        elim (now u) [
          | same _ e ↦
              let chosen_is : chosen t rs' u ≡ chosen t rs u = ap (λ (r : Record). other t (row_start t u + r.choice)) e in
              subst (λ y. RecordsPair t rs' y u) (sym chosen_is) (records_on (chosen t rs u) u (kept.both u less (ap (λ (r : Record). r.state) (sym e) ∙ two)))
          | lone _ _ three _ _ ↦ absurd (omega (arith, two, three))
          | waiting _ _ one _ _ _ ↦ absurd (omega (arith, one, two))
          | paired _ _ _ _ r ↦ r
        ]

    answered_on : (u q : ℕ) → Answered atleast t rs u q → Answered atleast t rs' u q
    answered_on u q was =
        let place : chosen_place t rs' (other t q) ≡ chosen_place t rs (other t q) = ap (λ (r : Record). row_start t (other t q) + r.choice) (stays (other t q) was.paired) in
        record { paired = still_paired (other t q) was.paired; higher = subst (λ p. entry_above atleast t p (mirror t u q) ≡ true) (sym place) was.higher }

    answered_now : (u q : ℕ) → InRow t u q → state rs' u ≡ 2 → entry_above atleast t q (chosen_place t rs' u) ≡ true → Answered atleast t rs' u q
    answered_now u q there two over =
        answered_on u q
        (elim (now u) [
          | same _ e ↦
              let place : chosen_place t rs' u ≡ chosen_place t rs u = ap (λ (r : Record). row_start t u + r.choice) e in
              kept.answered u q there (ap (λ (r : Record). r.state) (sym e) ∙ two) (subst (λ p. entry_above atleast t q p ≡ true) place over)
          | lone _ _ three _ _ ↦ absurd (omega (arith, two, three))
          | waiting _ _ one _ _ _ ↦ absurd (omega (arith, one, two))
          | paired n _ _ best _ ↦ answers u (chosen_place t rs' u) q best n there over
        ])

    -- a parcel that newly waits is not waited for by the one that it points at
    unmet_new : (x y : ℕ) → x < parcels t → state rs' y ≡ 1 → chosen t rs' y ≡ x → chosen t rs' x ≡ y → (state rs y ≡ 1 → chosen t rs y ≡ x → ⊥) → x ≡ v → Best atleast t rs x (chosen_place t rs' x) → ⊥
    unmet_new x y less one back there unmet is best =
        elim (now y) [
          | same _ e ↦ unmet (ap (λ (r : Record). r.state) (sym e) ∙ one) (ap (λ (r : Record). other t (row_start t y + r.choice)) (sym e) ∙ back)
          | lone _ _ three _ _ ↦ omega (arith, one, three)
          | waiting _ too _ _ _ _ ↦ other_not_own t sound x (chosen_place t rs' x) best.within (there ∙ too ∙ sym is)
          | paired _ _ two _ _ ↦ omega (arith, one, two)
        ]

    unmet_now : (u : ℕ) → u < parcels t → state rs' u ≡ 1 → state rs' (chosen t rs' u) ≡ 1 → chosen t rs' (chosen t rs' u) ≡ u → ⊥
    unmet_now u less one too back =
        let y = chosen t rs' u in
        let y-less : y < parcels t = other_below t sound u (chosen_place t rs' u) (best_now u less (inl one)).within in
        elim (now u) [
          | same _ e ↦
              let was : state rs u ≡ 1 = ap (λ (r : Record). r.state) (sym e) ∙ one in
              let chosen_is : chosen t rs u ≡ y = ap (λ (r : Record). other t (row_start t u + r.choice)) (sym e) in
              elim (now y) [
                | same _ f ↦
                    let y-was : state rs y ≡ 1 = ap (λ (r : Record). r.state) (sym f) ∙ too in
                    let y-back : chosen t rs y ≡ u = ap (λ (r : Record). other t (row_start t y + r.choice)) (sym f) ∙ back in
                    kept.unmet u less was (ap (state rs) chosen_is ∙ y-was) (ap (chosen t rs) chosen_is ∙ y-back)
                | lone _ _ three _ _ ↦ omega (arith, too, three)
                | waiting _ is _ best _ unmet ↦ unmet (ap (state rs) back ∙ was) (ap (chosen t rs) back ∙ chosen_is)
                | paired _ _ two _ _ ↦ omega (arith, too, two)
              ]
          | lone _ _ three _ _ ↦ omega (arith, one, three)
          | waiting _ is _ best _ unmet ↦ unmet_new u y less too back refl unmet is best
          | paired _ _ two _ _ ↦ omega (arith, one, two)
        ]

    pub kept_now : Kept atleast t rs'
    kept_now = record { long = long ∙ kept.long; best = best_now; bare = bare_now; both = both_now; answered = answered_now; unmet = unmet_now }
