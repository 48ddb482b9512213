-- What holds of a round at all times: the claims behind every mark, record and note. Assumes nothing.
use Rattle.std.proofs.Common.{◌≡◌, ℕ, ◌<◌, ◌≤◌, Bool, true, false, ◌⊎◌, List, sym, ◌∙◌, subst, inl, inr, ⊎_elim, arith}
use Rattle.line.specs.declared.Note.{Note}
use Rattle.matching.specs.Pairs.{Pair, touch, ◌∈◌}
use Rattle.sheet.specs.Graph.{Graph, InRow, parcels, other, mirror, row_start}
use Rattle.pairing.specs.Pairs.{joint}
use Rattle.pairing.specs.Above.{above}
use Rattle.protocol.specs.Marks.{bid, drop}

-- a round, by what its records, marks and notes say at each parcel and place
pub record Core : Type 0 where
  pub st : ℕ → ℕ
  pub at : ℕ → ℕ
  pub opn : ℕ → Bool
  pub bd : ℕ → Bool
  pub notes : List Note

module _ {K : Type 0} (atleast : K → K → Bool) (t : Graph K) where
  -- the pair of the entry at place p of row u
  abbrev pub pair_at : ℕ → ℕ → Pair
  pair_at u p = joint u (other t p)

  -- a pair is out: a recorded pair touches it and stands above it
  pub record Out (st at : ℕ → ℕ) (q : Pair) : Type 0 where
    pub by : ℕ
    pub parcel : by < parcels t
    pub paired : st by ≡ 2
    pub touches : touch (pair_at by (at by)) q ≡ true
    pub higher : above atleast t (pair_at by (at by)) q ≡ true

  -- the bid of u along place p was sent: it waits, or has arrived
  abbrev pub BidSent : Core → ℕ → ℕ → Type 0
  BidSent c u p = (bid t u p ∈ c.notes) ⊎ (c.bd (mirror t u p) ≡ true)

  -- a note goes along an entry
  pub record Along (x : Note) : Type 0 where
    pub from : ℕ
    pub place : ℕ
    pub within : InRow t from place
    pub is : (x ≡ bid t from place) ⊎ (x ≡ drop t from place)

  -- u has chosen: it waits or is paired
  abbrev pub Choosing : Core → ℕ → Type 0
  Choosing c u = (c.st u ≡ 1) ⊎ (c.st u ≡ 2)

  pub record Inv (c : Core) : Type 0 where
    pub small : (u : ℕ) → u < parcels t → c.st u ≤ 3
    pub in_row : (u : ℕ) → u < parcels t → Choosing c u → InRow t u (c.at u)
    pub along : (x : Note) → x ∈ c.notes → Along x
    -- claims: a struck entry is out; a drop's entry is struck; what stands above a bid is out
    pub struck_out : (u p : ℕ) → InRow t u p → c.opn p ≡ false → Out c.st c.at (pair_at u p)
    pub drop_struck : (u p : ℕ) → InRow t u p → drop t u p ∈ c.notes → c.opn p ≡ false
    pub bid_first : (u p : ℕ) → InRow t u p → BidSent c u p → (q : ℕ) → InRow t u q → above atleast t (pair_at u q) (pair_at u p) ≡ true → Out c.st c.at (pair_at u q)
    -- claims of records: above a choice all is struck; above a recorded pair all is out; a lone parcel's entries are struck
    pub wait_first : (u : ℕ) → u < parcels t → c.st u ≡ 1 → (q : ℕ) → InRow t u q → above atleast t (pair_at u q) (pair_at u (c.at u)) ≡ true → c.opn q ≡ false
    pub pair_first : (u : ℕ) → u < parcels t → c.st u ≡ 2 → (x q : ℕ) → InRow t x q → touch (pair_at x q) (pair_at u (c.at u)) ≡ true → above atleast t (pair_at x q) (pair_at u (c.at u)) ≡ true → Out c.st c.at (pair_at x q)
    pub lone_struck : (u : ℕ) → u < parcels t → c.st u ≡ 3 → (p : ℕ) → InRow t u p → c.opn p ≡ false
    pub lone_choice : (u : ℕ) → u < parcels t → c.st u ≡ 3 → c.at u ≡ row_start t u
    -- nothing is forgotten: what is struck on one side is struck on the other or a drop waits; a chooser's bid was sent; it waits at an open entry without a bid; a paired parcel keeps one entry
    pub struck_both : (u p : ℕ) → InRow t u p → c.opn p ≡ false → (c.opn (mirror t u p) ≡ false) ⊎ (drop t u p ∈ c.notes)
    pub bid_sent : (u : ℕ) → u < parcels t → Choosing c u → BidSent c u (c.at u)
    pub wait_open : (u : ℕ) → u < parcels t → c.st u ≡ 1 → c.opn (c.at u) ≡ true
    pub wait_unbid : (u : ℕ) → u < parcels t → c.st u ≡ 1 → c.bd (c.at u) ≡ false
    pub pair_struck : (u : ℕ) → u < parcels t → c.st u ≡ 2 → (p : ℕ) → InRow t u p → (p ≡ c.at u → ⊥) → c.opn p ≡ false

  -- recorded pairs stay recorded, so what is out stays out
  pub out_more : {st at st' at' : ℕ → ℕ} {q : Pair} → ((u : ℕ) → st u ≡ 2 → (st' u ≡ 2) × (at' u ≡ at u)) → Out st at q → Out st' at' q
  out_more {st} {at} {st'} {at'} {q} keep o =
      let k = keep o.by o.paired in
      record {
        by = o.by;
        parcel = o.parcel;
        paired = k.0;
        touches = subst (λ p. touch (pair_at o.by p) q ≡ true) (sym k.1) o.touches;
        higher = subst (λ p. above atleast t (pair_at o.by p) q ≡ true) (sym k.1) o.higher;
      }

  -- two rounds that say the same at each parcel and place, with the same notes
  pub record Same (c d : Core) : Type 0 where
    pub st : (u : ℕ) → d.st u ≡ c.st u
    pub at : (u : ℕ) → (c.st u ≡ 0 → ⊥) → d.at u ≡ c.at u
    pub opn : (p : ℕ) → d.opn p ≡ c.opn p
    pub bd : (p : ℕ) → d.bd p ≡ c.bd p
    pub less : (x : Note) → x ∈ d.notes → x ∈ c.notes
    pub more : (x : Note) → x ∈ c.notes → x ∈ d.notes

  module _ (c d : Core) (s : Same c d) where
    was : (u k : ℕ) → d.st u ≡ k → c.st u ≡ k
    was u k e = sym (s.st u) ∙ e

    chose : (u : ℕ) → Choosing d u → Choosing c u
    chose u = ⊎_elim (λ e. inl (was u 1 e)) (λ e. inr (was u 2 e))

    at_one : (u : ℕ) → c.st u ≡ 1 → c.at u ≡ d.at u
    at_one u e = sym (s.at u (λ z. omega arith))

    at_two : (u : ℕ) → c.st u ≡ 2 → c.at u ≡ d.at u
    at_two u e = sym (s.at u (λ z. omega arith))

    at_three : (u : ℕ) → c.st u ≡ 3 → c.at u ≡ d.at u
    at_three u e = sym (s.at u (λ z. omega arith))

    at_chosen : (u : ℕ) → Choosing c u → c.at u ≡ d.at u
    at_chosen u = ⊎_elim (at_one u) (at_two u)

    out_same : {q : Pair} → Out c.st c.at q → Out d.st d.at q
    out_same = out_more (λ u e. (s.st u ∙ e, sym (at_two u e)))

    struck_was : (p : ℕ) → d.opn p ≡ false → c.opn p ≡ false
    struck_was p e = sym (s.opn p) ∙ e

    sent_was : (u p : ℕ) → BidSent d u p → BidSent c u p
    sent_was u p = ⊎_elim (λ m. inl (s.less _ m)) (λ e. inr (sym (s.bd _) ∙ e))

    sent_now : (u p : ℕ) → BidSent c u p → BidSent d u p
    sent_now u p = ⊎_elim (λ m. inl (s.more _ m)) (λ e. inr (s.bd _ ∙ e))

    pub inv_same : Inv c → Inv d
    inv_same i = record {
      small = λ u b. subst (λ k. k ≤ 3) (sym (s.st u)) (i.small u b);
      in_row = λ u b h. subst (InRow t u) (at_chosen u (chose u h)) (i.in_row u b (chose u h));
      along = λ x m. i.along x (s.less x m);
      struck_out = λ u p e z. out_same (i.struck_out u p e (struck_was p z));
      drop_struck = λ u p e m. s.opn p ∙ i.drop_struck u p e (s.less _ m);
      bid_first = λ u p e b q f a. out_same (i.bid_first u p e (sent_was u p b) q f a);
      wait_first = λ u b z q f a.
          s.opn q ∙ i.wait_first u b (was u 1 z) q f (subst (λ p. above atleast t (pair_at u q) (pair_at u p) ≡ true) (sym (at_one u (was u 1 z))) a);
      pair_first = λ u b z x q f h a.
          let e = sym (at_two u (was u 2 z)) in
          out_same
          (i.pair_first u b (was u 2 z) x q f (subst (λ p. touch (pair_at x q) (pair_at u p) ≡ true) e h) (subst (λ p. above atleast t (pair_at x q) (pair_at u p) ≡ true) e a));
      lone_struck = λ u b z p e. s.opn p ∙ i.lone_struck u b (was u 3 z) p e;
      lone_choice = λ u b z. sym (at_three u (was u 3 z)) ∙ i.lone_choice u b (was u 3 z);
      struck_both = λ u p e z. ⊎_elim (λ o. inl (s.opn _ ∙ o)) (λ m. inr (s.more _ m)) (i.struck_both u p e (struck_was p z));
      bid_sent = λ u b h. subst (BidSent d u) (at_chosen u (chose u h)) (sent_now u (c.at u) (i.bid_sent u b (chose u h)));
      wait_open = λ u b z. s.opn (d.at u) ∙ subst (λ p. c.opn p ≡ true) (at_one u (was u 1 z)) (i.wait_open u b (was u 1 z));
      wait_unbid = λ u b z. s.bd (d.at u) ∙ subst (λ p. c.bd p ≡ false) (at_one u (was u 1 z)) (i.wait_unbid u b (was u 1 z));
      pair_struck = λ u b z p e x. s.opn p ∙ i.pair_struck u b (was u 2 z) p e (λ y. x (y ∙ at_two u (was u 2 z)));
    }
