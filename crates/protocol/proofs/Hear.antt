-- Receiving a note keeps the claims. Assumes nothing.
use Rattle.std.proofs.Common.{◌≡◌, ℕ, ◌<◌, Bool, true, false, List, ◌∷◌, sym, refl, ap, ◌∙◌, subst, inl, inr, ⊎_elim, arith}
use Rattle.std.proofs.lemmas.Bool.{cases_eq}
use Rattle.line.specs.declared.Note.{Note}
use Rattle.line.proofs.Updated.{upd, upd_same, upd_other}
use Rattle.matching.specs.Pairs.{Pair, ◌∈◌}
use Rattle.sheet.specs.Graph.{Graph, InRow, parcels, other, mirror}
use Rattle.sheet.specs.Check.{Sound}
use Rattle.sheet.proofs.Rows.{one_row}
use Rattle.pairing.proofs.Entries.{mirror_in, mirror_back}
use Rattle.protocol.specs.Marks.{bid, drop}
use Rattle.protocol.proofs.Core.{Core, Inv, Out, BidSent, Choosing, pair_at, out_more}
use Rattle.protocol.proofs.Entries.{same_mirror, same_bid, same_drop, no_bid_drop, mirror_pair}

-- a number that an update did not write was there before
pub upd_was : (f : ℕ → ℕ) (u a x k : ℕ) → (a ≡ k → ⊥) → upd f u a x ≡ k → (f x ≡ k) × (x ≡ u → ⊥)
upd_was f u a x k differs e =
    ⊎_elim (λ is. absurd (differs (sym (upd_same f u a x is) ∙ e))) (λ not. (sym (upd_other f u a x not) ∙ e, not)) (cases_eq x u)

-- striking keeps what is struck
pub upd_false : (f : ℕ → Bool) (q x : ℕ) → f x ≡ false → upd f q false x ≡ false
upd_false f q x e = ⊎_elim (λ is. upd_same f q false x is) (λ not. upd_other f q false x not ∙ e) (cases_eq x q)

module _ {K : Type 0} (atleast : K → K → Bool) (t : Graph K) (sound : Sound t) (c : Core) (inv : Inv atleast t c) where
  -- a parcel that waits is taken back to idle
  abbrev pub reset : ℕ → Core
  reset a = record { st = upd c.st a 0; at = c.at; opn = c.opn; bd = c.bd; notes = c.notes }

  module _ (a : ℕ) (waits : c.st a ≡ 1) where
    reset_out : {q : Pair} → Out atleast t c.st c.at q → Out atleast t (reset a).st c.at q
    reset_out = out_more atleast t (λ u two. (upd_other c.st a 0 u (λ e. let b = ap c.st e in omega arith) ∙ two, refl))

    was : (u k : ℕ) → (0 ≡ k → ⊥) → (reset a).st u ≡ k → c.st u ≡ k
    was u k not e = (upd_was c.st a 0 u k not e).0

    one : (u : ℕ) → (reset a).st u ≡ 1 → c.st u ≡ 1
    one u = was u 1 (λ e. omega arith)

    two : (u : ℕ) → (reset a).st u ≡ 2 → c.st u ≡ 2
    two u = was u 2 (λ e. omega arith)

    three : (u : ℕ) → (reset a).st u ≡ 3 → c.st u ≡ 3
    three u = was u 3 (λ e. omega arith)

    chose : (u : ℕ) → Choosing atleast t (reset a) u → Choosing atleast t c u
    chose u = ⊎_elim (λ e. inl (one u e)) (λ e. inr (two u e))

    pub reset_inv : Inv atleast t (reset a)
    reset_inv = record {
      small = λ u b. ⊎_elim (λ e. let z = upd_same c.st a 0 u e in omega arith) (λ e. let z = upd_other c.st a 0 u e in omega (arith, inv.small u b)) (cases_eq u a);
      in_row = λ u b h. inv.in_row u b (chose u h);
      along = inv.along;
      struck_out = λ u p e z. reset_out (inv.struck_out u p e z);
      drop_struck = inv.drop_struck;
      bid_first = λ u p e b q f x. reset_out (inv.bid_first u p e b q f x);
      wait_first = λ u b z. inv.wait_first u b (one u z);
      pair_first = λ u b z x q f h y. reset_out (inv.pair_first u b (two u z) x q f h y);
      lone_struck = λ u b z. inv.lone_struck u b (three u z);
      lone_choice = λ u b z. inv.lone_choice u b (three u z);
      struck_both = inv.struck_both;
      bid_sent = λ u b h. inv.bid_sent u b (chose u h);
      wait_open = λ u b z. inv.wait_open u b (one u z);
      wait_unbid = λ u b z. inv.wait_unbid u b (one u z);
      pair_struck = λ u b z. inv.pair_struck u b (two u z);
    }

  -- the note along the entry at place p of row s is taken; its addressee's entry is the mirror
  module _ (s p : ℕ) (rest : List Note) (along : InRow t s p) (free : c.st (other t p) ≡ 1 → c.at (other t p) ≡ mirror t s p → ⊥) where
    -- nobody waits at the addressee's entry
    not_there : (u : ℕ) → u < parcels t → c.st u ≡ 1 → c.at u ≡ mirror t s p → ⊥
    not_there u b z e =
        let is : u ≡ other t p = one_row t sound.parcel u (other t p) (mirror t s p) (subst (InRow t u) e (inv.in_row u b (inl z))) (mirror_in t sound s p along) in
        free (subst (λ x. c.st x ≡ 1) is z) (subst (λ x. c.at x ≡ mirror t s p) is e)

    -- a bid is heard: it is marked at the addressee's entry
    abbrev pub hear : Core
    hear = record { st = c.st; at = c.at; opn = c.opn; bd = upd c.bd (mirror t s p) true; notes = rest }

    module _ (is : c.notes ≡ bid t s p ∷ rest) where
      kept : (x : Note) → x ∈ rest → x ∈ c.notes
      kept x m = subst (λ l. x ∈ l) (sym is) (inr m)

      first : bid t s p ∈ c.notes
      first = subst (λ l. bid t s p ∈ l) (sym is) (inl refl)

      drop_stays : (u q : ℕ) → drop t u q ∈ c.notes → drop t u q ∈ rest
      drop_stays u q m = ⊎_elim (λ e. absurd (no_bid_drop t sound s p u q (sym e))) (λ k. k) (subst (λ l. drop t u q ∈ l) is m)

      sent_was : (u q : ℕ) → InRow t u q → BidSent atleast t hear u q → BidSent atleast t c u q
      sent_was u q e =
          ⊎_elim (λ m. inl (kept _ m))
          (λ b. ⊎_elim
          (λ at. let k = same_mirror t sound u q s p e along at in inl (subst (λ x. bid t u x ∈ c.notes) (sym k.1) (subst (λ y. bid t y p ∈ c.notes) (sym k.0) first)))
          (λ not. inr (sym (upd_other c.bd (mirror t s p) true (mirror t u q) not) ∙ b))
          (cases_eq (mirror t u q) (mirror t s p)))

      pub sent_now : (u q : ℕ) → InRow t u q → BidSent atleast t c u q → BidSent atleast t hear u q
      sent_now u q e =
          let marked : mirror t u q ≡ mirror t s p → BidSent atleast t hear u q = λ at. inr (upd_same c.bd (mirror t s p) true (mirror t u q) at) in
          ⊎_elim
          (λ m. ⊎_elim
          (λ same. let k = same_bid t sound u q s p e along same in marked (ap (λ y. mirror t y q) k.0 ∙ ap (mirror t s) k.1))
          inl (subst (λ l. bid t u q ∈ l) is m))
          (λ b. ⊎_elim marked (λ not. inr (upd_other c.bd (mirror t s p) true (mirror t u q) not ∙ b)) (cases_eq (mirror t u q) (mirror t s p)))

      pub hear_inv : Inv atleast t hear
      hear_inv = record {
        small = inv.small;
        in_row = inv.in_row;
        along = λ x m. inv.along x (kept x m);
        struck_out = inv.struck_out;
        drop_struck = λ u q e m. inv.drop_struck u q e (kept _ m);
        bid_first = λ u q e b. inv.bid_first u q e (sent_was u q e b);
        wait_first = inv.wait_first;
        pair_first = inv.pair_first;
        lone_struck = inv.lone_struck;
        lone_choice = inv.lone_choice;
        struck_both = λ u q e z. ⊎_elim inl (λ m. inr (drop_stays u q m)) (inv.struck_both u q e z);
        bid_sent = λ u b h. sent_now u (c.at u) (inv.in_row u b h) (inv.bid_sent u b h);
        wait_open = inv.wait_open;
        wait_unbid = λ u b z. upd_other c.bd (mirror t s p) true (c.at u) (not_there u b z) ∙ inv.wait_unbid u b z;
        pair_struck = inv.pair_struck;
      }

    -- a drop is heard: the addressee's entry is struck
    abbrev pub lose : Core
    lose = record { st = c.st; at = c.at; opn = upd c.opn (mirror t s p) false; bd = c.bd; notes = rest }

    module _ (is : c.notes ≡ drop t s p ∷ rest) where
      kept' : (x : Note) → x ∈ rest → x ∈ c.notes
      kept' x m = subst (λ l. x ∈ l) (sym is) (inr m)

      sender_struck : c.opn p ≡ false
      sender_struck = inv.drop_struck s p along (subst (λ l. drop t s p ∈ l) (sym is) (inl refl))

      struck : (q : ℕ) → c.opn q ≡ false → lose.opn q ≡ false
      struck q = upd_false c.opn (mirror t s p) q

      bid_stays : (u q : ℕ) → bid t u q ∈ c.notes → bid t u q ∈ rest
      bid_stays u q m = ⊎_elim (λ e. absurd (no_bid_drop t sound u q s p e)) (λ k. k) (subst (λ l. bid t u q ∈ l) is m)

      -- the struck entry's pair is the sender's
      newly_out : (u q : ℕ) → InRow t u q → q ≡ mirror t s p → Out atleast t c.st c.at (pair_at atleast t u q)
      newly_out u q e at =
          let rows : u ≡ other t p = one_row t sound.parcel u (other t p) (mirror t s p) (subst (InRow t u) at e) (mirror_in t sound s p along) in
          let pairs : pair_at atleast t u q ≡ pair_at atleast t s p =
          ap (λ x. pair_at atleast t x q) rows ∙ ap (pair_at atleast t (other t p)) at ∙ mirror_pair t sound atleast s p along in
          subst (Out atleast t c.st c.at) (sym pairs) (inv.struck_out s p along sender_struck)

      both_sides : (u q : ℕ) → InRow t u q → q ≡ mirror t s p → lose.opn (mirror t u q) ≡ false
      both_sides u q e at =
          let rows : u ≡ other t p = one_row t sound.parcel u (other t p) (mirror t s p) (subst (InRow t u) at e) (mirror_in t sound s p along) in
          let back : mirror t u q ≡ p = ap (λ x. mirror t x q) rows ∙ ap (mirror t (other t p)) at ∙ mirror_back t sound s p along in
          struck (mirror t u q) (ap c.opn back ∙ sender_struck)

      was_struck : (q : ℕ) → (q ≡ mirror t s p → ⊥) → lose.opn q ≡ false → c.opn q ≡ false
      was_struck q not z = sym (upd_other c.opn (mirror t s p) false q not) ∙ z

      sent_was' : (u q : ℕ) → BidSent atleast t lose u q → BidSent atleast t c u q
      sent_was' u q = ⊎_elim (λ m. inl (kept' _ m)) inr

      sent_now' : (u q : ℕ) → BidSent atleast t c u q → BidSent atleast t lose u q
      sent_now' u q = ⊎_elim (λ m. inl (bid_stays u q m)) inr

      pub lose_inv : Inv atleast t lose
      lose_inv = record {
        small = inv.small;
        in_row = inv.in_row;
        along = λ x m. inv.along x (kept' x m);
        struck_out = λ u q e z. ⊎_elim (newly_out u q e) (λ not. inv.struck_out u q e (was_struck q not z)) (cases_eq q (mirror t s p));
        drop_struck = λ u q e m. struck q (inv.drop_struck u q e (kept' _ m));
        bid_first = λ u q e b. inv.bid_first u q e (sent_was' u q b);
        wait_first = λ u b z q e a. struck q (inv.wait_first u b z q e a);
        pair_first = inv.pair_first;
        lone_struck = λ u b z q e. struck q (inv.lone_struck u b z q e);
        lone_choice = inv.lone_choice;
        struck_both = λ u q e z.
            ⊎_elim (λ at. inl (both_sides u q e at))
            (λ not. ⊎_elim (λ o. inl (struck (mirror t u q) o))
            (λ m. ⊎_elim
            (λ same. let k = same_drop t sound u q s p e along same in inl (upd_same c.opn (mirror t s p) false (mirror t u q) (ap (λ y. mirror t y q) k.0 ∙ ap (mirror t s) k.1)))
            inr (subst (λ l. drop t u q ∈ l) is m))
            (inv.struck_both u q e (was_struck q not z)))
            (cases_eq q (mirror t s p));
        bid_sent = λ u b h. sent_now' u (c.at u) (inv.bid_sent u b h);
        wait_open = λ u b z. upd_other c.opn (mirror t s p) false (c.at u) (not_there u b z) ∙ inv.wait_open u b z;
        wait_unbid = inv.wait_unbid;
        pair_struck = λ u b z q e x. struck q (inv.pair_struck u b z q e x);
      }
