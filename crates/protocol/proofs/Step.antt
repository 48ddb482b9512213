-- A parcel that chooses, and one that receives a note, keep the claims. Assumes nothing.
use Rattle.std.proofs.Common.{◌≡◌, ℕ, ◌+◌, ◌-◌, ◌<◌, Bool, true, false, cond, eqb, List, ◌∷◌, ◌++◌, length, get_or, sym, refl, ap, ◌∙◌, subst, inl, inr, ⊎_elim, arith}
use Rattle.std.proofs.lemmas.List.{get_or-set_same, get_or-set_other}
use Rattle.std.proofs.lemmas.Bool.{cases_eq, cases_Bool, cond-true, cond-false, and_parts, and_from, eqb-true, eq-eqb, both_ways}
use Rattle.line.specs.declared.Note.{Note}
use Rattle.line.proofs.Updated.{upd, upd_same, upd_other}
use Rattle.records.specs.declared.record.Record.{Record}
use Rattle.ranking.specs.Law.{Lawful}
use Rattle.matching.specs.Pairs.{Pair, ◌∈◌}
use Rattle.matching.proofs.In.{in_front, in_back, in_either, in_map, map_in}
use Rattle.sheet.specs.Graph.{Graph, InRow, parcels, entries, other, mirror, row_start}
use Rattle.sheet.specs.Check.{Sound, Alike}
use Rattle.pairing.specs.Above.{above}
use Rattle.pairing.specs.Pairs.{joint}
use Rattle.pairing.proofs.Entries.{mirror_in, place_below, other_below, one_place}
use Rattle.pairing.proofs.Orders.{above_ordered}
use Rattle.choosing.specs.Top.{Top}
use Rattle.choosing.proofs.Tops.{top_above}
use Rattle.protocol.specs.Marks.{open', bidden, bid, drop, strike, let_go, open_others}
use Rattle.protocol.specs.Steps.{LetsGo, Chooses, alone, waits, pairs, Receives, hears, agrees, loses, turns, heard, dropped, awaited, entry_of}
use Rattle.protocol.proofs.Core.{Core, Inv, inv_same, BidSent, pair_at}
use Rattle.protocol.proofs.Marks.{struck_closed, struck_bidden, heard_open, heard_bidden, same_open, same_bidden, gone_facts, facts_gone, others_gone, gone_others}
use Rattle.protocol.proofs.Hear.{reset, reset_inv, hear, hear_inv, sent_now, lose, lose_inv}
use Rattle.protocol.proofs.Choose.{Tops, send_bid_inv, wait, wait_inv, lone, lone_inv, pair, pair_inv, Others}

-- a round by its states, chosen places, marks and notes
abbrev pub core : (ℕ → ℕ) → (ℕ → ℕ) → List ℕ → List Note → Core
core st at m ns = record { st = st; at = at; opn = open' m; bd = bidden m; notes = ns }

module _ {K : Type 0} (atleast : K → K → Bool) (laws : Lawful atleast) (t : Graph K) (sound : Sound t) (alike : Alike atleast t) where
  tops : (st at : ℕ → ℕ) (m : List ℕ) (ns : List Note) (inv : Inv atleast t (core st at m ns)) (u p : ℕ) → Top atleast t (open' m) u p → Tops atleast laws t sound (core st at m ns) inv u p
  tops st at m ns inv u p top = record { within = top.within; is_open = top.candidate; over = top_above atleast laws t sound alike (open' m) u p top }

  -- letting go, as the claims have it
  module _ (c : Core) (inv : Inv atleast t c) (u p : ℕ) (parcel : u < parcels t) (idle : c.st u ≡ 0) (m m' : List ℕ) (out : List Note) (go : LetsGo t u p m m' out) (opn : (q : ℕ) → c.opn q ≡ open' m q) (bd : (q : ℕ) → c.bd q ≡ bidden m q) where
    others : Others atleast laws t sound c inv u parcel idle p (let_go t m u p) out
    others = record {
      gone_in = λ q g. (gone_facts t u parcel m p q g).0;
      gone_open = λ q g. opn q ∙ (gone_facts t u parcel m p q g).1;
      gone_other = λ q g. (gone_facts t u parcel m p q g).2;
      gone_all = λ q e o n. facts_gone t u parcel m p q e (sym (opn q) ∙ o) n;
      drop_from = λ x i. let k = map_in (drop t u) (open_others t m u p) x (subst (λ l. x ∈ l) go.drops i) in (k.0, others_gone t u parcel m p k.0 k.1, k.2);
      drop_for = λ q g. subst (λ l. drop t u q ∈ l) (sym go.drops) (in_map (drop t u) (open_others t m u p) q (gone_others t u parcel m p q g));
    }

    go_open : (q : ℕ) → open' m' q ≡ cond (let_go t m u p q) false (c.opn q)
    go_open q =
        ⊎_elim
        (λ g. struck_closed m' q (get_or m q 0) (go.struck q ∙ cond-true (let_go t m u p q) (strike (get_or m q 0)) (get_or m q 0) g) ∙ sym (cond-true (let_go t m u p q) false (c.opn q) g))
        (λ n. same_open m m' q q (go.struck q ∙ cond-false (let_go t m u p q) (strike (get_or m q 0)) (get_or m q 0) n) ∙ sym (opn q) ∙ sym (cond-false (let_go t m u p q) false (c.opn q) n))
        (cases_Bool (let_go t m u p q))

    go_bidden : (q : ℕ) → bidden m' q ≡ c.bd q
    go_bidden q =
        ⊎_elim
        (λ g. struck_bidden m m' q q (go.struck q ∙ cond-true (let_go t m u p q) (strike (get_or m q 0)) (get_or m q 0) g) ∙ sym (bd q))
        (λ n. same_bidden m m' q q (go.struck q ∙ cond-false (let_go t m u p q) (strike (get_or m q 0)) (get_or m q 0) n) ∙ sym (bd q))
        (cases_Bool (let_go t m u p q))

  from_row : (u p : ℕ) → InRow t u p → row_start t u + (p - row_start t u) ≡ p
  from_row u p e = omega (arith, e.from)

  pub chooses_inv : (st at : ℕ → ℕ) (m : List ℕ) (ns : List Note) → Inv atleast t (core st at m ns) → (u : ℕ) → u < parcels t → st u ≡ 0 → {r : Record} {m' : List ℕ} {out : List Note} → Chooses atleast t u m r m' out → Inv atleast t (core (upd st u r.state) (upd at u (row_start t u + r.choice)) m' (out ++ ns))
  chooses_inv st at m ns inv u parcel idle (alone none) =
      inv_same atleast t (lone atleast laws t sound (core st at m ns) inv u parcel idle) (core (upd st u 3) (upd at u (row_start t u + 0)) m ns)
      (record { st = λ x. refl; at = λ x _. ap (λ a. upd at u a x) (omega arith); opn = λ p. refl; bd = λ p. refl; less = λ x i. i; more = λ x i. i })
      (lone_inv atleast laws t sound (core st at m ns) inv u parcel idle none)
  chooses_inv st at m ns inv u parcel idle (waits {p} top unbid) =
      let c = core st at m ns in
      let tp = tops st at m ns inv u p top in
      let sent = send_bid_inv atleast laws t sound c inv u p tp in
      let tp' : Tops atleast laws t sound (core st at m (bid t u p ∷ ns)) sent u p = record { within = tp.within; is_open = tp.is_open; over = tp.over } in
      inv_same atleast t (wait atleast laws t sound (core st at m (bid t u p ∷ ns)) sent u parcel idle p) (core (upd st u 1) (upd at u (row_start t u + (p - row_start t u))) m (bid t u p ∷ ns))
      (record { st = λ x. refl; at = λ x _. ap (λ a. upd at u a x) (from_row u p top.within); opn = λ q. refl; bd = λ q. refl; less = λ x i. i; more = λ x i. i })
      (wait_inv atleast laws t sound (core st at m (bid t u p ∷ ns)) sent u parcel idle p tp' unbid (inl (inl refl)))
  chooses_inv st at m ns inv u parcel idle (pairs {p} {m'} {out} top bidden' go) =
      let c = core st at m ns in
      let tp = tops st at m ns inv u p top in
      let sent = send_bid_inv atleast laws t sound c inv u p tp in
      let d = core st at m (bid t u p ∷ ns) in
      let tp' : Tops atleast laws t sound d sent u p = record { within = tp.within; is_open = tp.is_open; over = tp.over } in
      let os = others d sent u p parcel idle m m' out go (λ q. refl) (λ q. refl) in
      inv_same atleast t (pair atleast laws t sound d sent u parcel idle p (let_go t m u p) out) (core (upd st u 2) (upd at u (row_start t u + (p - row_start t u))) m' (bid t u p ∷ out ++ ns))
      (record {
        st = λ x. refl;
        at = λ x _. ap (λ a. upd at u a x) (from_row u p top.within);
        opn = go_open d sent u p parcel idle m m' out go (λ q. refl) (λ q. refl);
        bd = go_bidden d sent u p parcel idle m m' out go (λ q. refl) (λ q. refl);
        less = λ x. ⊎_elim (λ e. in_back out (bid t u p ∷ ns) x (inl e)) (λ i. ⊎_elim (in_front out (bid t u p ∷ ns) x) (λ j. in_back out (bid t u p ∷ ns) x (inr j)) (in_either out ns x i));
        more = λ x i. ⊎_elim (λ j. inr (in_front out ns x j)) (⊎_elim inl (λ j. inr (in_back out ns x j))) (in_either out (bid t u p ∷ ns) x i);
      })
      (pair_inv atleast laws t sound d sent u parcel idle p (let_go t m u p) out os tp' bidden' (inl (inl refl)))

  -- an update that writes what was there, and one over another
  upd_idem : (f : ℕ → ℕ) (u a x : ℕ) → f u ≡ a → upd f u a x ≡ f x
  upd_idem f u a x e = ⊎_elim (λ is. upd_same f u a x is ∙ sym e ∙ ap f (sym is)) (upd_other f u a x) (cases_eq x u)

  upd_over : (f : ℕ → ℕ) (u a b x : ℕ) → upd f u b x ≡ upd (upd f u a) u b x
  upd_over f u a b x = ⊎_elim (λ is. upd_same f u b x is ∙ sym (upd_same (upd f u a) u b x is)) (λ n. upd_other f u b x n ∙ sym (upd_other f u a x n) ∙ sym (upd_other (upd f u a) u b x n)) (cases_eq x u)

  pub joint_other : (u x y : ℕ) → joint u x ≡ joint u y → x ≡ y
  joint_other u x y e = let l = ap (λ (p : Pair). p.lo) e in let h = ap (λ (p : Pair). p.hi) e in omega (arith, l, h)

  -- the addressee's entry for a note along the entry at place p of row s
  module _ (s p : ℕ) (along : InRow t s p) (m : List ℕ) (long : length m ≡ entries t) where
    entry_below : mirror t s p < length m
    entry_below = omega (arith, long, place_below t sound (other t p) (mirror t s p) (mirror_in t sound s p along))

    pub heard_opens : (q : ℕ) → open' (heard t (bid t s p) m) q ≡ open' m q
    heard_opens q =
        ⊎_elim
        (λ is. subst (λ x. open' (heard t (bid t s p) m) x ≡ open' m x) (sym is) (heard_open m (heard t (bid t s p) m) (mirror t s p) (mirror t s p) (get_or-set_same m (mirror t s p) _ 0 entry_below)))
        (λ n. same_open m (heard t (bid t s p) m) q q (get_or-set_other m (mirror t s p) q _ 0 n))
        (cases_eq q (mirror t s p))

    heard_bids : (q : ℕ) → bidden (heard t (bid t s p) m) q ≡ upd (bidden m) (mirror t s p) true q
    heard_bids q =
        ⊎_elim
        (λ is. ap (bidden (heard t (bid t s p) m)) is ∙ heard_bidden (heard t (bid t s p) m) (mirror t s p) (get_or m (mirror t s p) 0) (get_or-set_same m (mirror t s p) _ 0 entry_below) ∙ sym (upd_same (bidden m) (mirror t s p) true q is))
        (λ n. same_bidden m (heard t (bid t s p) m) q q (get_or-set_other m (mirror t s p) q _ 0 n) ∙ sym (upd_other (bidden m) (mirror t s p) true q n))
        (cases_eq q (mirror t s p))

    pub dropped_opens : (q : ℕ) → open' (dropped t (drop t s p) m) q ≡ upd (open' m) (mirror t s p) false q
    dropped_opens q =
        ⊎_elim
        (λ is. ap (open' (dropped t (drop t s p) m)) is ∙ struck_closed (dropped t (drop t s p) m) (mirror t s p) (get_or m (mirror t s p) 0) (get_or-set_same m (mirror t s p) _ 0 entry_below) ∙ sym (upd_same (open' m) (mirror t s p) false q is))
        (λ n. same_open m (dropped t (drop t s p) m) q q (get_or-set_other m (mirror t s p) q _ 0 n) ∙ sym (upd_other (open' m) (mirror t s p) false q n))
        (cases_eq q (mirror t s p))

    dropped_bids : (q : ℕ) → bidden (dropped t (drop t s p) m) q ≡ bidden m q
    dropped_bids q =
        ⊎_elim
        (λ is. subst (λ x. bidden (dropped t (drop t s p) m) x ≡ bidden m x) (sym is) (struck_bidden m (dropped t (drop t s p) m) (mirror t s p) (mirror t s p) (get_or-set_same m (mirror t s p) _ 0 entry_below)))
        (λ n. same_bidden m (dropped t (drop t s p) m) q q (get_or-set_other m (mirror t s p) q _ 0 n))
        (cases_eq q (mirror t s p))

  module _ (st at : ℕ → ℕ) (m : List ℕ) (long : length m ≡ entries t) (s p : ℕ) (along : InRow t s p) (rest : List Note) (r : Record) (state-is : st (other t p) ≡ r.state) (place_is : at (other t p) ≡ row_start t (other t p) + r.choice) where
    -- what the addressee waits for, from its record
    not_awaited : (n : Note) → n.addressee ≡ other t p → entry_of t n ≡ mirror t s p → awaited t n r ≡ false → st (other t p) ≡ 1 → at (other t p) ≡ mirror t s p → ⊥
    not_awaited n to at_entry_lem un one there =
        both_ways (awaited t n r) un
        (and_from (eqb r.state 1) (eqb (row_start t n.addressee + r.choice) (entry_of t n)) (eq-eqb r.state 1 (sym state-is ∙ one))
        (eq-eqb (row_start t n.addressee + r.choice) (entry_of t n) (ap (λ x. row_start t x + r.choice) to ∙ sym place_is ∙ there ∙ sym at_entry_lem)))

    is_awaited : (n : Note) → n.addressee ≡ other t p → entry_of t n ≡ mirror t s p → awaited t n r ≡ true → (st (other t p) ≡ 1) × (at (other t p) ≡ mirror t s p)
    is_awaited n to at_entry_lem aw =
        let k = and_parts (eqb r.state 1) (eqb (row_start t n.addressee + r.choice) (entry_of t n)) aw in
        (state-is ∙ eqb-true r.state 1 k.0, place_is ∙ ap (λ x. row_start t x + r.choice) (sym to) ∙ eqb-true (row_start t n.addressee + r.choice) (entry_of t n) k.1 ∙ at_entry_lem)

    -- the entry at which the addressee waits stands above its other open ones
    waited_tops : (c : Core) (i : Inv atleast t c) → c.st (other t p) ≡ 1 → c.at (other t p) ≡ mirror t s p → (d : Core) (j : Inv atleast t d) → ((q : ℕ) → d.opn q ≡ c.opn q) → Tops atleast laws t sound d j (other t p) (mirror t s p)
    waited_tops c i one there d j opn =
        let u = other t p in
        let b = other_below t sound s p along in
        let row = mirror_in t sound s p along in
        record {
          within = row;
          is_open = opn (mirror t s p) ∙ ap c.opn (sym there) ∙ i.wait_open u b one;
          over = λ q e o n.
              ⊎_elim (λ h. h)
              (λ h. absurd (both_ways (c.opn q) (i.wait_first u b one q e (subst (λ x. above atleast t (pair_at atleast t u q) (pair_at atleast t u x) ≡ true) (sym there) h)) (sym (opn q) ∙ o)))
              ((above_ordered atleast laws t).ranks (pair_at atleast t u (mirror t s p)) (pair_at atleast t u q) (λ same. n (sym (one_place t sound u (mirror t s p) q row e (joint_other u (other t (mirror t s p)) (other t q) same)))));
        }

    pub receives_bid : Inv atleast t (core st at m (bid t s p ∷ rest)) → {r' : Record} {m' : List ℕ} {out : List Note} → Receives atleast t (bid t s p) r m r' m' out → Inv atleast t (core (upd st (other t p) r'.state) (upd at (other t p) (row_start t (other t p) + r'.choice)) m' (out ++ rest))
    receives_bid inv (hears _ un) =
        let free = not_awaited (bid t s p) refl refl un in
        inv_same atleast t (hear atleast t sound (core st at m (bid t s p ∷ rest)) inv s p rest along free) (core (upd st (other t p) r.state) (upd at (other t p) (row_start t (other t p) + r.choice)) (heard t (bid t s p) m) rest)
        (record {
          st = λ x. upd_idem st (other t p) r.state x state-is;
          at = λ x _. upd_idem at (other t p) (row_start t (other t p) + r.choice) x place_is;
          opn = heard_opens s p along m long;
          bd = heard_bids s p along m long;
          less = λ x i. i;
          more = λ x i. i;
        })
        (hear_inv atleast t sound (core st at m (bid t s p ∷ rest)) inv s p rest along free refl)
    receives_bid inv (agrees {m'} {out} _ aw go) =
        let u = other t p in
        let q = mirror t s p in
        let b = other_below t sound s p along in
        let k = is_awaited (bid t s p) refl refl aw in
        let c0 = core st at m (bid t s p ∷ rest) in
        let c1 = reset atleast t sound c0 inv u in
        let i1 = reset_inv atleast t sound c0 inv u k.0 in
        let idle : upd st u 0 u ≡ 0 = upd_same st u 0 u refl in
        let free : upd st u 0 u ≡ 1 → at u ≡ q → ⊥ = λ one _. omega (arith, idle, one) in
        let c2 = hear atleast t sound c1 i1 s p rest along free in
        let i2 = hear_inv atleast t sound c1 i1 s p rest along free refl in
        let top = waited_tops c0 inv k.0 k.1 c2 i2 (λ x. refl) in
        let sent : BidSent atleast t c2 u q = sent_now atleast t sound c1 i1 s p rest along free refl u q (mirror_in t sound s p along) (subst (BidSent atleast t c0 u) k.1 (inv.bid_sent u b (inl k.0))) in
        let opn : (x : ℕ) → open' m x ≡ open' (heard t (bid t s p) m) x = λ x. sym (heard_opens s p along m long x) in
        let bd : (x : ℕ) → upd (bidden m) q true x ≡ bidden (heard t (bid t s p) m) x = λ x. sym (heard_bids s p along m long x) in
        let os = others c2 i2 u q b idle (heard t (bid t s p) m) m' out go opn bd in
        inv_same atleast t (pair atleast laws t sound c2 i2 u b idle q (let_go t (heard t (bid t s p) m) u q) out) (core (upd st u 2) (upd at u (row_start t u + (q - row_start t u))) m' (out ++ rest))
        (record {
          st = λ x. upd_over st u 0 2 x;
          at = λ x _. ap (λ y. upd at u y x) (from_row u q (mirror_in t sound s p along));
          opn = go_open c2 i2 u q b idle (heard t (bid t s p) m) m' out go opn bd;
          bd = go_bidden c2 i2 u q b idle (heard t (bid t s p) m) m' out go opn bd;
          less = λ x i. i;
          more = λ x i. i;
        })
        (pair_inv atleast laws t sound c2 i2 u b idle q (let_go t (heard t (bid t s p) m) u q) out os top (upd_same (bidden m) q true q refl) sent)
    receives_bid inv (loses e _) = absurd (omega (arith, e))
    receives_bid inv (turns e _ _) = absurd (omega (arith, e))

    pub receives_drop : Inv atleast t (core st at m (drop t s p ∷ rest)) → {r' : Record} {m' : List ℕ} {out : List Note} → Receives atleast t (drop t s p) r m r' m' out → Inv atleast t (core (upd st (other t p) r'.state) (upd at (other t p) (row_start t (other t p) + r'.choice)) m' (out ++ rest))
    receives_drop inv (hears e _) = absurd (omega (arith, e))
    receives_drop inv (agrees e _ _) = absurd (omega (arith, e))
    receives_drop inv (loses _ un) =
        let free = not_awaited (drop t s p) refl refl un in
        inv_same atleast t (lose atleast t sound (core st at m (drop t s p ∷ rest)) inv s p rest along free) (core (upd st (other t p) r.state) (upd at (other t p) (row_start t (other t p) + r.choice)) (dropped t (drop t s p) m) rest)
        (record {
          st = λ x. upd_idem st (other t p) r.state x state-is;
          at = λ x _. upd_idem at (other t p) (row_start t (other t p) + r.choice) x place_is;
          opn = dropped_opens s p along m long;
          bd = dropped_bids s p along m long;
          less = λ x i. i;
          more = λ x i. i;
        })
        (lose_inv atleast t sound (core st at m (drop t s p ∷ rest)) inv s p rest along free refl)
    receives_drop inv (turns {r'} {m'} {out} _ aw ch) =
        let u = other t p in
        let b = other_below t sound s p along in
        let k = is_awaited (drop t s p) refl refl aw in
        let c0 = core st at m (drop t s p ∷ rest) in
        let c1 = reset atleast t sound c0 inv u in
        let i1 = reset_inv atleast t sound c0 inv u k.0 in
        let idle : upd st u 0 u ≡ 0 = upd_same st u 0 u refl in
        let free : upd st u 0 u ≡ 1 → at u ≡ mirror t s p → ⊥ = λ one _. omega (arith, idle, one) in
        let c2 = lose atleast t sound c1 i1 s p rest along free in
        let i2 = lose_inv atleast t sound c1 i1 s p rest along free refl in
        let i3 : Inv atleast t (core (upd st u 0) at (dropped t (drop t s p) m) rest) =
        inv_same atleast t c2 (core (upd st u 0) at (dropped t (drop t s p) m) rest) (record { st = λ x. refl; at = λ x _. refl; opn = dropped_opens s p along m long; bd = dropped_bids s p along m long; less = λ x i. i; more = λ x i. i }) i2 in
        inv_same atleast t (core (upd (upd st u 0) u r'.state) (upd at u (row_start t u + r'.choice)) m' (out ++ rest)) (core (upd st u r'.state) (upd at u (row_start t u + r'.choice)) m' (out ++ rest))
        (record { st = λ x. upd_over st u 0 r'.state x; at = λ x _. refl; opn = λ x. refl; bd = λ x. refl; less = λ x i. i; more = λ x i. i })
        (chooses_inv (upd st u 0) at (dropped t (drop t s p) m) rest i3 u b idle ch)
