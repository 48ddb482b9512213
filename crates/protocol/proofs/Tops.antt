-- What a parcel would do always exists: a top entry, marks after letting go, a choice. Assumes nothing.
use Rattle.std.proofs.Common.{◌≡◌, ℕ, ◌<◌, Bool, true, false, cond, ◌⊎◌, List, [], ◌∷◌, map, length, get_or, sym, refl, ap, ◌∙◌, subst, inl, inr, ⊎_elim, arith}
use Rattle.std.specs.List.{range_with_len}
use Rattle.std.proofs.lemmas.List.FromFn.{length-map-range_with_len, get_or-map-range_with_len}
use Rattle.std.proofs.lemmas.List.{get_or_past, length-set}
use Rattle.std.proofs.lemmas.Bool.{cases_Bool, cases_eq, cases_lt, cond-false, both_ways}
use Rattle.line.specs.declared.Note.{Note}
use Rattle.records.specs.declared.record.Record.{Record}
use Rattle.ranking.specs.Law.{Lawful}
use Rattle.matching.specs.Pairs.{◌∈◌}
use Rattle.sheet.specs.Graph.{Graph, InRow, parcels, entries, other}
use Rattle.sheet.specs.Check.{Sound, Alike}
use Rattle.pairing.specs.Pairs.{joint}
use Rattle.pairing.specs.Above.{above}
use Rattle.pairing.proofs.Entries.{one_place, place_below}
use Rattle.pairing.proofs.Orders.{above_ordered, row_above}
use Rattle.choosing.specs.Top.{Top}
use Rattle.protocol.specs.Marks.{open', bidden, drop, strike, let_go, open_others, places}
use Rattle.protocol.specs.Steps.{LetsGo, Chooses, alone, waits, pairs, Receives, hears, agrees, loses, turns, heard, dropped, awaited, entry_of}
use Rattle.protocol.proofs.Marks.{place_in, in_places, gone_facts}
use Rattle.protocol.proofs.Step.{joint_other}

-- what a choice comes to
pub record Choice {K : Type 0} (atleast : K → K → Bool) (t : Graph K) (u : ℕ) (m : List ℕ) : Type 0 where
  pub record' : Record
  pub marks' : List ℕ
  pub out : List Note
  pub chooses : Chooses atleast t u m record' marks' out

-- what receiving a note comes to
pub record Receipt {K : Type 0} (atleast : K → K → Bool) (t : Graph K) (n : Note) (r : Record) (m : List ℕ) : Type 0 where
  pub record' : Record
  pub marks' : List ℕ
  pub out : List Note
  pub receives : Receives atleast t n r m record' marks' out

module _ {K : Type 0} (t : Graph K) (sound : Sound t) where
  -- the marks after letting go
  abbrev pub gone_marks : ℕ → ℕ → List ℕ → List ℕ
  gone_marks u p m = map (λ q. cond (let_go t m u p q) (strike (get_or m q 0)) (get_or m q 0)) (range_with_len 0 (length m))

  pub can_let_go : (u p : ℕ) → u < parcels t → (m : List ℕ) → length m ≡ entries t → LetsGo t u p m (gone_marks u p m) (map (drop t u) (open_others t m u p))
  can_let_go u p parcel m long =
      let f : ℕ → ℕ = λ q. cond (let_go t m u p q) (strike (get_or m q 0)) (get_or m q 0) in
      record {
        drops = refl;
        long = length-map-range_with_len f 0 (length m);
        struck = λ q.
            ⊎_elim (λ less. get_or-map-range_with_len f 0 (length m) q q 0 less (omega arith))
            (λ past.
            let none : get_or m q 0 ≡ 0 = get_or_past m q 0 past in
            let kept : let_go t m u p q ≡ false =
            ⊎_elim (λ g. absurd (omega (arith, long, place_below t sound u q (gone_facts t u parcel m p q g).0, past))) (λ n. n) (cases_Bool (let_go t m u p q)) in
            get_or_past (gone_marks u p m) q 0 (omega (arith, length-map-range_with_len f 0 (length m), past)) ∙ sym (cond-false (let_go t m u p q) (strike (get_or m q 0)) (get_or m q 0) kept ∙ none))
            (cases_lt q (length m));
      }

module _ {K : Type 0} (atleast : K → K → Bool) (laws : Lawful atleast) (t : Graph K) (sound : Sound t) (alike : Alike atleast t) where
  -- the best of some places of row u
  module _ (u : ℕ) (stands : ℕ → Bool) where
    abbrev over : ℕ → ℕ → Type 0
    over p q = above atleast t (joint u (other t p)) (joint u (other t q)) ≡ true

    record Best (xs : List ℕ) : Type 0 where
      place : ℕ
      within : InRow t u place
      candidate : stands place ≡ true
      tops : (q : ℕ) → q ∈ xs → stands q ≡ true → (q ≡ place → ⊥) → over place q

    -- of two candidates of the row one stands above the other
    either_over : (p q : ℕ) → InRow t u p → InRow t u q → (q ≡ p → ⊥) → over p q ⊎ over q p
    either_over p q a b n = (above_ordered atleast laws t).ranks (joint u (other t p)) (joint u (other t q)) (λ e. n (sym (one_place t sound u p q a b (joint_other atleast laws t sound alike u (other t p) (other t q) e))))

    -- one place more that stands, or does not
    with_one : (x : ℕ) (xs : List ℕ) → InRow t u x → stands x ≡ true → Best xs ⊎ ((q : ℕ) → q ∈ xs → stands q ≡ false) → Best (x ∷ xs)
    with_one x xs row is (inr none) = record { place = x; within = row; candidate = is; tops = λ q. ⊎_elim (λ e _ n. absurd (n e)) (λ i s _. absurd (both_ways (stands q) (none q i) s)) }
    with_one x xs row is (inl best) =
        let p = best.place in
        ⊎_elim
        (λ (same : x ≡ p). record { place = p; within = best.within; candidate = best.candidate; tops = λ q. ⊎_elim (λ e _ n. absurd (n (e ∙ same))) (λ i. best.tops q i) })
        (λ (differs : x ≡ p → ⊥).
        ⊎_elim
        (λ (low : over p x). record { place = p; within = best.within; candidate = best.candidate; tops = λ q. ⊎_elim (λ e _ _. subst (over p) (sym e) low) (λ i. best.tops q i) })
        (λ (high : over x p). record {
          place = x;
          within = row;
          candidate = is;
          tops = λ q. ⊎_elim (λ e _ n. absurd (n e))
              (λ i s _. ⊎_elim (λ (e : q ≡ p). subst (over x) (sym e) high)
              (λ n. (above_ordered atleast laws t).passes_on (joint u (other t x)) (joint u (other t p)) (joint u (other t q)) high (best.tops q i s n)) (cases_eq q p));
        })
        (either_over p x best.within row differs))
        (cases_eq x p)

    without : (x : ℕ) (xs : List ℕ) → stands x ≡ false → Best xs ⊎ ((q : ℕ) → q ∈ xs → stands q ≡ false) → Best (x ∷ xs) ⊎ ((q : ℕ) → q ∈ (x ∷ xs) → stands q ≡ false)
    without x xs not (inr none) = inr (λ q. ⊎_elim (λ e. ap stands e ∙ not) (none q))
    without x xs not (inl best) = inl (record { place = best.place; within = best.within; candidate = best.candidate; tops = λ q. ⊎_elim (λ e s _. absurd (both_ways (stands q) (ap stands e ∙ not) s)) (λ i. best.tops q i) })

    best_of : (xs : List ℕ) → ((q : ℕ) → q ∈ xs → InRow t u q) → Best xs ⊎ ((q : ℕ) → q ∈ xs → stands q ≡ false)
    best_of [] row = inr (λ q i. absurd i)
    best_of (x ∷ xs) row =
        let rest = best_of xs (λ q i. row q (inr i)) in
        ⊎_elim (λ is. inl (with_one x xs (row x (inl refl)) is rest)) (λ not. without x xs not rest) (cases_Bool (stands x))

    -- a row has a top candidate, or none
    pub top_or_none : u < parcels t → ((p : ℕ) × Top atleast t stands u p) ⊎ ((q : ℕ) → InRow t u q → stands q ≡ false)
    top_or_none parcel =
        ⊎_elim
        (λ (best : Best (places t u)). inl (
          best.place,
          record {
            within = best.within;
            candidate = best.candidate;
            over = λ q row s n. sym (row_above atleast laws t sound alike u best.place q best.within row) ∙ best.tops q (place_in t u parcel q row) s n;
          },
        ))
        (λ none. inr (λ q row. none q (place_in t u parcel q row)))
        (best_of (places t u) (in_places t u parcel))

  -- an idle parcel can choose
  pub can_choose : (u : ℕ) → u < parcels t → (m : List ℕ) → length m ≡ entries t → Choice atleast t u m
  can_choose u parcel m long =
      ⊎_elim
      (λ (top : (p : ℕ) × Top atleast t (open' m) u p).
      ⊎_elim
      (λ b. record { record' = _; marks' = _; out = _; chooses = pairs top.1 b (can_let_go t sound u top.0 parcel m long) })
      (λ n. record { record' = _; marks' = _; out = _; chooses = waits top.1 n })
      (cases_Bool (bidden m top.0)))
      (λ none. record { record' = _; marks' = _; out = _; chooses = alone none })
      (top_or_none u (open' m) parcel)

  -- a note along an entry can be received
  pub can_receive : (n : Note) (r : Record) (m : List ℕ) → n.addressee < parcels t → length m ≡ entries t → (n.kind ≡ 1) ⊎ (n.kind ≡ 2) → Receipt atleast t n r m
  can_receive n r m parcel long kind =
      let heard-long : length (heard t n m) ≡ entries t = length-set m _ _ ∙ long in
      let dropped-long : length (dropped t n m) ≡ entries t = length-set m _ _ ∙ long in
      ⊎_elim
      (λ one. ⊎_elim (λ aw. record { record' = _; marks' = _; out = _; receives = agrees one aw (can_let_go t sound n.addressee (entry_of t n) parcel (heard t n m) heard-long) }) (λ un. record { record' = _; marks' = _; out = _; receives = hears one un }) (cases_Bool (awaited t n r)))
      (λ two. ⊎_elim (λ aw. let c = can_choose n.addressee parcel (dropped t n m) dropped-long in record { record' = _; marks' = _; out = _; receives = turns two aw c.chooses }) (λ un. record { record' = _; marks' = _; out = _; receives = loses two un }) (cases_Bool (awaited t n r)))
      kind
