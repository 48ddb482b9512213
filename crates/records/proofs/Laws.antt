-- The list of recorded pairs has just the recorded pairs, and rises. Assumes nothing.
use Rattle.std.proofs.Common.{◌≡◌, ℕ, zero, suc, ◌+◌, ◌<◌, true, false, eqb, ltb, ◌⊎◌, List, [], ◌∷◌, ◌++◌, sym, refl, ap, ◌∙◌, subst, inl, inr, ⊎_elim, add-one, arith}
use Rattle.std.proofs.lemmas.Bool.{ltb-true, eqb-true, lt-ltb, eq-eqb, and_parts, and_from, cases_Bool, cases_lt, both_ways}
use Rattle.matching.specs.Pairs.{Pair, ◌∈◌}
use Rattle.matching.proofs.In.{in_front, in_back, in_either}
use Rattle.sheet.specs.Graph.{Graph, parcels, row_end}
use Rattle.records.specs.declared.record.Record.{Record}
use Rattle.records.specs.Records.{state, chosen_place, chosen}
use Rattle.records.specs.Listed.{pairs_up, own_pair, pairs_below, lower_pairs, Rising, Listed}
use Rattle.records.proofs.Listing.{pairs_more_yes, pairs_more_no}

-- a member of a list with one more at its end
in_push : (ps : List Pair) (q p : Pair) → p ∈ (ps ++ q ∷ []) → (p ∈ ps) ⊎ (p ≡ q)
in_push ps q p m = ⊎_elim inl (⊎_elim inr absurd) (in_either ps (q ∷ []) p m)

rising_push : (ps : List Pair) (q : Pair) → Rising ps → ((p : Pair) → p ∈ ps → p.lo < q.lo) → Rising (ps ++ q ∷ [])
rising_push [] q up less = (λ r m. absurd m, tt)
rising_push (p ∷ ps) q up less =
    (λ r m. ⊎_elim (up.0 r) (λ e. subst (λ x. p.lo < x.lo) (sym e) (less p (inl refl))) (in_push ps q r m), rising_push ps q up.1 (λ r m. less r (inr m)))

module _ {K : Type 0} (t : Graph K) (rs : List Record) where
  -- the list of the parcels below n
  record Partly (n : ℕ) (ps : List Pair) : Type 0 where
    below : (p : Pair) → p ∈ ps → p.lo < n
    sound : (p : Pair) → p ∈ ps → pairs_up t rs p.lo ≡ true
    hi_is : (p : Pair) → p ∈ ps → p.hi ≡ chosen t rs p.lo
    whole : (u : ℕ) → u < n → pairs_up t rs u ≡ true → own_pair t rs u ∈ ps
    rising : Rising ps

  partly : (n : ℕ) → Partly n (pairs_below t rs n)
  partly zero = record { below = λ p m. absurd m; sound = λ p m. absurd m; hi_is = λ p m. absurd m; whole = λ u less. absurd (omega arith); rising = tt }
  partly (suc n) =
      let was = partly n in
      subst (λ k. Partly k (pairs_below t rs k)) (add-one n)
      (⊎_elim
      (λ y.
      let ps = pairs_below t rs n in
      let p = own_pair t rs n in
      subst (Partly (n + 1)) (sym (pairs_more_yes t rs n y))
      (record {
        below = λ q m. ⊎_elim (λ i. let h = was.below q i in omega arith) (λ e. let h = ap (λ x. x.lo) e in omega arith) (in_push ps p q m);
        sound = λ q m. ⊎_elim (was.sound q) (λ e. ap (λ x. pairs_up t rs x.lo) e ∙ y) (in_push ps p q m);
        hi_is = λ q m. ⊎_elim (was.hi_is q) (λ e. ap (λ x. x.hi) e ∙ ap (λ x. chosen t rs x.lo) (sym e)) (in_push ps p q m);
        whole = λ u less up. ⊎_elim (λ l. in_front ps (p ∷ []) (own_pair t rs u) (was.whole u l up)) (λ l. let e : n ≡ u = omega arith in subst (λ v. own_pair t rs v ∈ (ps ++ p ∷ [])) e (in_back ps (p ∷ []) p (inl refl))) (cases_lt u n);
        rising = rising_push ps p was.rising was.below;
      }))
      (λ no-pair.
      subst (Partly (n + 1)) (sym (pairs_more_no t rs n no-pair))
      (record {
        below = λ q m. let h = was.below q m in omega arith;
        sound = was.sound;
        hi_is = was.hi_is;
        whole = λ u less up. ⊎_elim (λ l. was.whole u l up) (λ l. let e : n ≡ u = omega arith in absurd (both_ways (pairs_up t rs u) (subst (λ v. pairs_up t rs v ≡ false) e no-pair) up)) (cases_lt u n);
        rising = was.rising;
      }))
      (cases_Bool (pairs_up t rs n)))

  pub pairs_listed : Listed t rs (lower_pairs t rs)
  pairs_listed =
      let all = partly (parcels t) in
      record {
        sound = λ p m.
            let up = and_parts (eqb (state rs p.lo) 2) _ (all.sound p m) in
            let more = and_parts (ltb (chosen_place t rs p.lo) (row_end t p.lo)) _ up.1 in (
              record { parcel = all.below p m; paired = eqb-true _ _ up.0; within = ltb-true _ _ more.0; with' = sym (all.hi_is p m) },
              subst (λ v. p.lo < v) (sym (all.hi_is p m)) (ltb-true p.lo (chosen t rs p.lo) more.1),
            );
        whole = λ u v r less.
            subst (λ w. record { lo = u; hi = w } ∈ lower_pairs t rs) r.with'
            (all.whole u r.parcel
            (and_from (eqb (state rs u) 2) _ (eq-eqb _ _ r.paired)
            (and_from (ltb (chosen_place t rs u) (row_end t u)) _ (lt-ltb _ _ r.within) (lt-ltb _ _ (subst (λ w. u < w) (sym r.with') less)))));
        rising = all.rising;
      }
