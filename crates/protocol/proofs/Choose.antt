-- Choosing keeps the claims. Assumes nothing.
use Rattle.std.proofs.Common.{◌≡◌, ℕ, ◌<◌, Bool, true, false, cond, ◌⊎◌, List, ◌∷◌, ◌++◌, sym, refl, ap, ◌∙◌, subst, inl, inr, ⊎_elim, arith}
use Rattle.std.proofs.lemmas.Bool.{cases_eq, cases_Bool, both_ways, cond_both, cond-true, cond-false}
use Rattle.line.specs.declared.Note.{Note}
use Rattle.line.proofs.Updated.{upd, upd_same, upd_other}
use Rattle.ranking.specs.Law.{Lawful}
use Rattle.matching.specs.Pairs.{Pair, touch, ◌∈◌}
use Rattle.matching.proofs.In.{in_front, in_back, in_either}
use Rattle.sheet.specs.Graph.{Graph, InRow, parcels, other, mirror, row_start}
use Rattle.sheet.specs.Check.{Sound}
use Rattle.sheet.proofs.Rows.{one_row}
use Rattle.pairing.specs.Above.{above}
use Rattle.pairing.proofs.Entries.{mirror_in, mirror_back}
use Rattle.pairing.proofs.Members.{joint_shares}
use Rattle.pairing.proofs.Orders.{above_ordered}
use Rattle.protocol.specs.Marks.{bid, drop}
use Rattle.protocol.proofs.Core.{Core, Inv, Out, BidSent, Choosing, pair_at, out_more}
use Rattle.protocol.proofs.Entries.{same_bid, same_drop, no_bid_drop, mirror_pair, touching, Side}
use Rattle.protocol.proofs.Hear.{upd_was}

module _ {K : Type 0} (atleast : K → K → Bool) (laws : Lawful atleast) (t : Graph K) (sound : Sound t) (c : Core) (inv : Inv atleast t c) where
  -- the entry at place p of row u is open, and stands above the other open ones of the row
  pub record Tops (u p : ℕ) : Type 0 where
    pub within : InRow t u p
    pub is_open : c.opn p ≡ true
    pub over : (q : ℕ) → InRow t u q → c.opn q ≡ true → (q ≡ p → ⊥) → above atleast t (pair_at atleast t u p) (pair_at atleast t u q) ≡ true

  never_above : (x : Pair) → above atleast t x x ≡ true → ⊥
  never_above x = both_ways (above atleast t x x) ((above_ordered atleast laws t).not_itself x)

  -- so what stands above it is struck
  above_struck : (u p : ℕ) → Tops u p → (q : ℕ) → InRow t u q → above atleast t (pair_at atleast t u q) (pair_at atleast t u p) ≡ true → c.opn q ≡ false
  above_struck u p top q e a =
      ⊎_elim
      (λ o. absurd (⊎_elim
      (λ at. never_above (pair_at atleast t u p) (subst (λ x. above atleast t (pair_at atleast t u x) (pair_at atleast t u p) ≡ true) at a))
      (λ not. never_above (pair_at atleast t u p) ((above_ordered atleast laws t).passes_on (pair_at atleast t u p) (pair_at atleast t u q) (pair_at atleast t u p) (top.over q e o not) a))
      (cases_eq q p)))
      (λ z. z) (cases_Bool (c.opn q))

  -- a bid goes along the top entry
  abbrev pub send_bid : ℕ → ℕ → Core
  send_bid u p = record { st = c.st; at = c.at; opn = c.opn; bd = c.bd; notes = bid t u p ∷ c.notes }

  pub send_bid_inv : (u p : ℕ) → Tops u p → Inv atleast t (send_bid u p)
  send_bid_inv u p top = record {
    small = inv.small;
    in_row = inv.in_row;
    along = λ x. ⊎_elim (λ e. record { from = u; place = p; within = top.within; is = inl e }) (inv.along x);
    struck_out = inv.struck_out;
    drop_struck = λ v q e. ⊎_elim (λ same. absurd (no_bid_drop t sound u p v q (sym same))) (inv.drop_struck v q e);
    bid_first = λ v q e.
        let old : BidSent atleast t c v q → (r : ℕ) → InRow t v r → above atleast t (pair_at atleast t v r) (pair_at atleast t v q) ≡ true → Out atleast t c.st c.at (pair_at atleast t v r) = inv.bid_first v q e in
        ⊎_elim
        (⊎_elim
        (λ same r f a.
        let k = same_bid t sound v q u p e top.within same in
        let f' : InRow t u r = subst (λ x. InRow t x r) k.0 f in
        let a' : above atleast t (pair_at atleast t u r) (pair_at atleast t u p) ≡ true =
        subst (λ x. above atleast t (pair_at atleast t x r) (pair_at atleast t x p) ≡ true) k.0 (subst (λ x. above atleast t (pair_at atleast t v r) (pair_at atleast t v x) ≡ true) k.1 a) in
        inv.struck_out v r f (above_struck u p top r f' a'))
        (λ m. old (inl m)))
        (λ b. old (inr b));
    wait_first = inv.wait_first;
    pair_first = inv.pair_first;
    lone_struck = inv.lone_struck;
    lone_choice = inv.lone_choice;
    struck_both = λ v q e z. ⊎_elim inl (λ m. inr (inr m)) (inv.struck_both v q e z);
    bid_sent = λ v b h. ⊎_elim (λ m. inl (inr m)) inr (inv.bid_sent v b h);
    wait_open = inv.wait_open;
    wait_unbid = inv.wait_unbid;
    pair_struck = inv.pair_struck;
  }

  -- an idle parcel gets a record
  module _ (u : ℕ) (parcel : u < parcels t) (idle : c.st u ≡ 0) where
    apart : (v k : ℕ) → c.st v ≡ k → (0 ≡ k → ⊥) → v ≡ u → ⊥
    apart v k z not e = not (sym idle ∙ ap c.st (sym e) ∙ z)

    -- recorded pairs stay
    still_out : (s p : ℕ) {q : Pair} → Out atleast t c.st c.at q → Out atleast t (upd c.st u s) (upd c.at u p) q
    still_out s p =
        out_more atleast t
        (λ v two. let not = apart v 2 two (λ e. omega arith) in (upd_other c.st u s v not ∙ two, upd_other c.at u p v not))

    -- it waits at place p
    abbrev pub wait : ℕ → Core
    wait p = record { st = upd c.st u 1; at = upd c.at u p; opn = c.opn; bd = c.bd; notes = c.notes }

    module _ (p : ℕ) (top : Tops u p) (unbid : c.bd p ≡ false) (sent : BidSent atleast t c u p) where
      here : {A : Type 0} (f : ℕ → A) (a : A) (v : ℕ) → v ≡ u → upd f u a v ≡ a
      here f a v e = upd_same f u a v e

      -- of another parcel the record is as it was
      w_at : (v : ℕ) → (v ≡ u → ⊥) → (wait p).at v ≡ c.at v
      w_at v not = upd_other c.at u p v not

      w_st : (v : ℕ) → (v ≡ u → ⊥) → (wait p).st v ≡ c.st v
      w_st v not = upd_other c.st u 1 v not

      w_two : (v : ℕ) → (wait p).st v ≡ 2 → (c.st v ≡ 2) × (v ≡ u → ⊥)
      w_two v z = upd_was c.st u 1 v 2 (λ e. omega arith) z

      w_three : (v : ℕ) → (wait p).st v ≡ 3 → (c.st v ≡ 3) × (v ≡ u → ⊥)
      w_three v z = upd_was c.st u 1 v 3 (λ e. omega arith) z

      -- what holds of the new choice and of the old ones holds of all
      w_one : (Q : ℕ → ℕ → Type 0) → Q u p → ((v : ℕ) → v < parcels t → c.st v ≡ 1 → Q v (c.at v)) → (v : ℕ) → v < parcels t → (wait p).st v ≡ 1 → Q v ((wait p).at v)
      w_one Q new old v b z =
          ⊎_elim (λ e. subst (Q v) (sym (here c.at p v e)) (subst (λ x. Q x p) (sym e) new)) (λ not. subst (Q v) (sym (w_at v not)) (old v b (sym (w_st v not) ∙ z))) (cases_eq v u)

      w_chosen : (Q : ℕ → ℕ → Type 0) → Q u p → ((v : ℕ) → v < parcels t → Choosing atleast t c v → Q v (c.at v)) → (v : ℕ) → v < parcels t → Choosing atleast t (wait p) v → Q v ((wait p).at v)
      w_chosen Q new old v b =
          ⊎_elim (w_one Q new (λ x d o. old x d (inl o)) v b) (λ z. let k = w_two v z in subst (Q v) (sym (w_at v k.1)) (old v b (inr k.0)))

      pub wait_inv : Inv atleast t (wait p)
      wait_inv = record {
        small = λ v b. ⊎_elim (λ e. let z = here c.st 1 v e in omega arith) (λ not. let z = w_st v not in omega (arith, inv.small v b)) (cases_eq v u);
        in_row = w_chosen (InRow t) top.within inv.in_row;
        along = inv.along;
        struck_out = λ v q e z. still_out 1 p (inv.struck_out v q e z);
        drop_struck = inv.drop_struck;
        bid_first = λ v q e b r f a. still_out 1 p (inv.bid_first v q e b r f a);
        wait_first = w_one (λ v x. (q : ℕ) → InRow t v q → above atleast t (pair_at atleast t v q) (pair_at atleast t v x) ≡ true → c.opn q ≡ false) (above_struck u p top) inv.wait_first;
        pair_first = λ v b z x q f h a.
            let k = w_two v z in
            let e = w_at v k.1 in
            still_out 1 p
            (inv.pair_first v b k.0 x q f (subst (λ y. touch (pair_at atleast t x q) (pair_at atleast t v y) ≡ true) e h) (subst (λ y. above atleast t (pair_at atleast t x q) (pair_at atleast t v y) ≡ true) e a));
        lone_struck = λ v b z. inv.lone_struck v b (w_three v z).0;
        lone_choice = λ v b z. let k = w_three v z in w_at v k.1 ∙ inv.lone_choice v b k.0;
        struck_both = inv.struck_both;
        bid_sent = w_chosen (BidSent atleast t c) sent inv.bid_sent;
        wait_open = w_one (λ v x. c.opn x ≡ true) top.is_open inv.wait_open;
        wait_unbid = w_one (λ v x. c.bd x ≡ false) unbid inv.wait_unbid;
        pair_struck = λ v b z q e x. let k = w_two v z in inv.pair_struck v b k.0 q e (λ y. x (y ∙ sym (w_at v k.1)));
      }

    -- it becomes lone
    abbrev pub lone : Core
    lone = record { st = upd c.st u 3; at = upd c.at u (row_start t u); opn = c.opn; bd = c.bd; notes = c.notes }

    module _ (struck : (p : ℕ) → InRow t u p → c.opn p ≡ false) where
      l_at : (v : ℕ) → (v ≡ u → ⊥) → lone.at v ≡ c.at v
      l_at v not = upd_other c.at u (row_start t u) v not

      l_one : (v : ℕ) → lone.st v ≡ 1 → (c.st v ≡ 1) × (v ≡ u → ⊥)
      l_one v z = upd_was c.st u 3 v 1 (λ e. omega arith) z

      l_two : (v : ℕ) → lone.st v ≡ 2 → (c.st v ≡ 2) × (v ≡ u → ⊥)
      l_two v z = upd_was c.st u 3 v 2 (λ e. omega arith) z

      -- what holds of old choices holds of the same ones now
      l_chosen : (Q : ℕ → ℕ → Type 0) → ((v : ℕ) → v < parcels t → Choosing atleast t c v → Q v (c.at v)) → (v : ℕ) → v < parcels t → Choosing atleast t lone v → Q v (lone.at v)
      l_chosen Q old v b =
          ⊎_elim
          (λ z. let k = l_one v z in subst (Q v) (sym (l_at v k.1)) (old v b (inl k.0)))
          (λ z. let k = l_two v z in subst (Q v) (sym (l_at v k.1)) (old v b (inr k.0)))

      l_waits : (Q : ℕ → ℕ → Type 0) → ((v : ℕ) → v < parcels t → c.st v ≡ 1 → Q v (c.at v)) → (v : ℕ) → v < parcels t → lone.st v ≡ 1 → Q v (lone.at v)
      l_waits Q old v b z = let k = l_one v z in subst (Q v) (sym (l_at v k.1)) (old v b k.0)

      l_three : (Q : ℕ → Type 0) → Q u → ((v : ℕ) → v < parcels t → c.st v ≡ 3 → Q v) → (v : ℕ) → v < parcels t → lone.st v ≡ 3 → Q v
      l_three Q new old v b z = ⊎_elim (λ e. subst Q (sym e) new) (λ not. old v b (sym (upd_other c.st u 3 v not) ∙ z)) (cases_eq v u)

      pub lone_inv : Inv atleast t lone
      lone_inv = record {
        small = λ v b. ⊎_elim (λ e. let z = upd_same c.st u 3 v e in omega arith) (λ not. let z = upd_other c.st u 3 v not in omega (arith, inv.small v b)) (cases_eq v u);
        in_row = l_chosen (InRow t) inv.in_row;
        along = inv.along;
        struck_out = λ v q e z. still_out 3 (row_start t u) (inv.struck_out v q e z);
        drop_struck = inv.drop_struck;
        bid_first = λ v q e b r f a. still_out 3 (row_start t u) (inv.bid_first v q e b r f a);
        wait_first = l_waits (λ v x. (q : ℕ) → InRow t v q → above atleast t (pair_at atleast t v q) (pair_at atleast t v x) ≡ true → c.opn q ≡ false) inv.wait_first;
        pair_first = λ v b z x q f h a.
            let k = l_two v z in
            let e = l_at v k.1 in
            still_out 3 (row_start t u)
            (inv.pair_first v b k.0 x q f (subst (λ y. touch (pair_at atleast t x q) (pair_at atleast t v y) ≡ true) e h) (subst (λ y. above atleast t (pair_at atleast t x q) (pair_at atleast t v y) ≡ true) e a));
        lone_struck = l_three (λ v. (p : ℕ) → InRow t v p → c.opn p ≡ false) struck inv.lone_struck;
        lone_choice = λ v b z.
            ⊎_elim (λ e. upd_same c.at u (row_start t u) v e ∙ ap (row_start t) (sym e)) (λ not. l_at v not ∙ inv.lone_choice v b (sym (upd_other c.st u 3 v not) ∙ z)) (cases_eq v u);
        struck_both = inv.struck_both;
        bid_sent = l_chosen (BidSent atleast t c) inv.bid_sent;
        wait_open = l_waits (λ v x. c.opn x ≡ true) inv.wait_open;
        wait_unbid = l_waits (λ v x. c.bd x ≡ false) inv.wait_unbid;
        pair_struck = λ v b z q e x. let k = l_two v z in inv.pair_struck v b k.0 q e (λ y. x (y ∙ sym (l_at v k.1)));
      }

    -- it pairs at place p: all its other open entries are struck, and a drop goes along each
    abbrev pub pair : ℕ → (ℕ → Bool) → List Note → Core
    pair p gone drops = record { st = upd c.st u 2; at = upd c.at u p; opn = λ q. cond (gone q) false (c.opn q); bd = c.bd; notes = drops ++ c.notes }

    -- these are the other open entries of the row, and a drop for each
    pub record Others (p : ℕ) (gone : ℕ → Bool) (drops : List Note) : Type 0 where
      pub gone_in : (q : ℕ) → gone q ≡ true → InRow t u q
      pub gone_open : (q : ℕ) → gone q ≡ true → c.opn q ≡ true
      pub gone_other : (q : ℕ) → gone q ≡ true → q ≡ p → ⊥
      pub gone_all : (q : ℕ) → InRow t u q → c.opn q ≡ true → (q ≡ p → ⊥) → gone q ≡ true
      pub drop_from : (x : Note) → x ∈ drops → (q : ℕ) × (gone q ≡ true) × (x ≡ drop t u q)
      pub drop_for : (q : ℕ) → gone q ≡ true → drop t u q ∈ drops

    module _ (p : ℕ) (gone : ℕ → Bool) (drops : List Note) (all : Others p gone drops) (top : Tops u p) (bidden : c.bd p ≡ true) (sent : BidSent atleast t c u p) where
      p_at : (v : ℕ) → (v ≡ u → ⊥) → upd c.at u p v ≡ c.at v
      p_at v not = upd_other c.at u p v not

      p_one : (v : ℕ) → upd c.st u 2 v ≡ 1 → (c.st v ≡ 1) × (v ≡ u → ⊥)
      p_one v z = upd_was c.st u 2 v 1 (λ e. omega arith) z

      p_three : (v : ℕ) → upd c.st u 2 v ≡ 3 → (c.st v ≡ 3) × (v ≡ u → ⊥)
      p_three v z = upd_was c.st u 2 v 3 (λ e. omega arith) z

      -- the new pair is recorded
      new_out : (q : ℕ) → InRow t u q → above atleast t (pair_at atleast t u p) (pair_at atleast t u q) ≡ true → Out atleast t (upd c.st u 2) (upd c.at u p) (pair_at atleast t u q)
      new_out q e a =
          let is = upd_same c.at u p u refl in
          record {
            by = u;
            parcel = parcel;
            paired = upd_same c.st u 2 u refl;
            touches = subst (λ x. touch (pair_at atleast t u x) (pair_at atleast t u q) ≡ true) (sym is) (joint_shares u (other t p) (other t q));
            higher = subst (λ x. above atleast t (pair_at atleast t u x) (pair_at atleast t u q) ≡ true) (sym is) a;
          }

      struck : (q : ℕ) → c.opn q ≡ false → cond (gone q) false (c.opn q) ≡ false
      struck q z = cond_both (gone q) false (c.opn q) (λ b. b ≡ false) (λ _. refl) (λ _. z)

      gone_struck : (q : ℕ) → gone q ≡ true → cond (gone q) false (c.opn q) ≡ false
      gone_struck q g = cond-true (gone q) false (c.opn q) g

      -- what is struck now was struck, or is gone
      either : (q : ℕ) → cond (gone q) false (c.opn q) ≡ false → (gone q ≡ true) ⊎ (c.opn q ≡ false)
      either q z = ⊎_elim inl (λ g. inr (sym (cond-false (gone q) false (c.opn q) g) ∙ z)) (cases_Bool (gone q))

      sent_was : (v q : ℕ) → BidSent atleast t (pair p gone drops) v q → BidSent atleast t c v q
      sent_was v q =
          ⊎_elim
          (λ m. ⊎_elim (λ d. let k = all.drop_from (bid t v q) d in absurd (no_bid_drop t sound v q u k.0 k.2)) inl (in_either drops c.notes (bid t v q) m))
          inr

      sent_now : (v q : ℕ) → BidSent atleast t c v q → BidSent atleast t (pair p gone drops) v q
      sent_now v q = ⊎_elim (λ m. inl (in_back drops c.notes (bid t v q) m)) inr

      -- what touches the new pair and stands above it is out: on this side it is struck, on the other the bid says so
      over_new : (x q : ℕ) → InRow t x q → touch (pair_at atleast t x q) (pair_at atleast t u p) ≡ true → above atleast t (pair_at atleast t x q) (pair_at atleast t u p) ≡ true → Out atleast t c.st c.at (pair_at atleast t x q)
      over_new x q e h a =
          let v = other t p in
          let r = mirror t u p in
          ⊎_elim
          (λ (s : Side t sound u (pair_at atleast t x q)).
          subst (Out atleast t c.st c.at) s.is
          (inv.struck_out u s.place s.within (above_struck u p top s.place s.within (subst (λ y. above atleast t y (pair_at atleast t u p) ≡ true) (sym s.is) a))))
          (λ (s : Side t sound v (pair_at atleast t x q)).
          subst (Out atleast t c.st c.at) s.is
          (inv.bid_first v r (mirror_in t sound u p top.within) (inr (ap c.bd (mirror_back t sound u p top.within) ∙ bidden)) s.place s.within
          (subst (λ y. above atleast t (pair_at atleast t v s.place) y ≡ true) (sym (mirror_pair t sound atleast u p top.within)) (subst (λ y. above atleast t y (pair_at atleast t u p) ≡ true) (sym s.is) a))))
          (touching t sound u p x q top.within e h)

      -- what holds of the new pair and of the old ones holds of all
      p_two : (Q : ℕ → ℕ → Type 0) → Q u p → ((v : ℕ) → v < parcels t → c.st v ≡ 2 → Q v (c.at v)) → (v : ℕ) → v < parcels t → upd c.st u 2 v ≡ 2 → Q v (upd c.at u p v)
      p_two Q new old v b z =
          ⊎_elim (λ e. subst (Q v) (sym (upd_same c.at u p v e)) (subst (λ x. Q x p) (sym e) new)) (λ not. subst (Q v) (sym (p_at v not)) (old v b (sym (upd_other c.st u 2 v not) ∙ z))) (cases_eq v u)

      p_waits : (Q : ℕ → ℕ → Type 0) → ((v : ℕ) → v < parcels t → (v ≡ u → ⊥) → c.st v ≡ 1 → Q v (c.at v)) → (v : ℕ) → v < parcels t → upd c.st u 2 v ≡ 1 → Q v (upd c.at u p v)
      p_waits Q old v b z = let k = p_one v z in subst (Q v) (sym (p_at v k.1)) (old v b k.1 k.0)

      p_chosen : (Q : ℕ → ℕ → Type 0) → Q u p → ((v : ℕ) → v < parcels t → Choosing atleast t c v → Q v (c.at v)) → (v : ℕ) → v < parcels t → Choosing atleast t (pair p gone drops) v → Q v (upd c.at u p v)
      p_chosen Q new old v b = ⊎_elim (p_waits Q (λ x d _ o. old x d (inl o)) v b) (p_two Q new (λ x d o. old x d (inr o)) v b)

      pub pair_inv : Inv atleast t (pair p gone drops)
      pair_inv = record {
        small = λ v b. ⊎_elim (λ e. let z = upd_same c.st u 2 v e in omega arith) (λ not. let z = upd_other c.st u 2 v not in omega (arith, inv.small v b)) (cases_eq v u);
        in_row = p_chosen (InRow t) top.within inv.in_row;
        along = λ x m.
            ⊎_elim (λ d. let k = all.drop_from x d in record { from = u; place = k.0; within = all.gone_in k.0 k.1; is = inr k.2 }) (inv.along x) (in_either drops c.notes x m);
        struck_out = λ v q e z.
            ⊎_elim
            (λ g.
            let rows : u ≡ v = one_row t sound.parcel u v q (all.gone_in q g) e in
            subst (λ x. Out atleast t (upd c.st u 2) (upd c.at u p) (pair_at atleast t x q)) rows (new_out q (all.gone_in q g) (top.over q (all.gone_in q g) (all.gone_open q g) (all.gone_other q g))))
            (λ o. still_out 2 p (inv.struck_out v q e o)) (either q z);
        drop_struck = λ v q e m.
            ⊎_elim
            (λ d.
            let k = all.drop_from (drop t v q) d in
            let s = same_drop t sound v q u k.0 e (all.gone_in k.0 k.1) k.2 in
            gone_struck q (ap gone s.1 ∙ k.1))
            (λ o. struck q (inv.drop_struck v q e o)) (in_either drops c.notes (drop t v q) m);
        bid_first = λ v q e b r f a. still_out 2 p (inv.bid_first v q e (sent_was v q b) r f a);
        wait_first = p_waits (λ v x. (q : ℕ) → InRow t v q → above atleast t (pair_at atleast t v q) (pair_at atleast t v x) ≡ true → cond (gone q) false (c.opn q) ≡ false) (λ v b _ z q e a. struck q (inv.wait_first v b z q e a));
        pair_first = p_two
            (λ v y. (x q : ℕ) → InRow t x q → touch (pair_at atleast t x q) (pair_at atleast t v y) ≡ true → above atleast t (pair_at atleast t x q) (pair_at atleast t v y) ≡ true → Out atleast t (upd c.st u 2) (upd c.at u p) (pair_at atleast t x q))
            (λ x q e h a. still_out 2 p (over_new x q e h a))
            (λ v b z x q e h a. still_out 2 p (inv.pair_first v b z x q e h a));
        lone_struck = λ v b z q e. struck q (inv.lone_struck v b (p_three v z).0 q e);
        lone_choice = λ v b z. let k = p_three v z in p_at v k.1 ∙ inv.lone_choice v b k.0;
        struck_both = λ v q e z.
            ⊎_elim
            (λ g.
            let rows : u ≡ v = one_row t sound.parcel u v q (all.gone_in q g) e in
            inr (subst (λ x. drop t x q ∈ (drops ++ c.notes)) rows (in_front drops c.notes (drop t u q) (all.drop_for q g))))
            (λ o. ⊎_elim (λ m. inl (struck (mirror t v q) m)) (λ m. inr (in_back drops c.notes (drop t v q) m)) (inv.struck_both v q e o)) (either q z);
        bid_sent = p_chosen (BidSent atleast t (pair p gone drops)) (sent_now u p sent) (λ v b h. sent_now v (c.at v) (inv.bid_sent v b h));
        wait_open = p_waits (λ v x. cond (gone x) false (c.opn x) ≡ true)
            (λ v b not z. cond_both (gone (c.at v)) false (c.opn (c.at v)) (λ y. y ≡ true)
            (λ g. absurd (not (one_row t sound.parcel v u (c.at v) (inv.in_row v b (inl z)) (all.gone_in (c.at v) g)))) (λ _. inv.wait_open v b z));
        wait_unbid = p_waits (λ v x. c.bd x ≡ false) (λ v b _ z. inv.wait_unbid v b z);
        pair_struck = p_two (λ v y. (q : ℕ) → InRow t v q → (q ≡ y → ⊥) → cond (gone q) false (c.opn q) ≡ false)
            (λ q e x. ⊎_elim (λ o. gone_struck q (all.gone_all q e o x)) (struck q) (cases_Bool (c.opn q)))
            (λ v b z q e x. struck q (inv.pair_struck v b z q e x));
      }
