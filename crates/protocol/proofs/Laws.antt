-- The law of rounds. Assumes nothing.
use Rattle.std.proofs.Common.{◌≡◌, ℕ, zero, suc, ◌*◌, ◌<◌, ◌≤◌, Bool, true, false, not, ◌&&◌, ◌||◌, eqb, ltb, leb, ◌⊎◌, List, [], ◌∷◌, length, get_or, is_some, Some, None, sum_by, Option, unwrap_or, sym, refl, ap, ◌∙◌, subst, inl, inr, ⊎_elim, arith}
use Rattle.std.specs.Option.{option_map}
use Rattle.std.specs.List.{AllZip, AllByRecursion}
use Rattle.std.proofs.lemmas.Bool.{both_ways, cases_eq, cases_Bool, eqb-true, eq-eqb, or_from, and_left, and_right, le-ltb, lt-ltb, lt-leb, leb-true, false≢true, not_from_true, or_cases, or_left, or_right}
use Rattle.line.specs.declared.Note.{Note}
use Rattle.line.specs.Law as lines
use Rattle.ranking.specs.Law.{Lawful, lifted}
use Rattle.ranking.proofs.Lifted.{lifted_lawful}
use Rattle.matching.specs.Pairs.{Pair, ◌∈◌}
use Rattle.matching.specs.Stable.{Stable}
use Rattle.matching.specs.Half.{Pairing, Answers}
use Rattle.matching.proofs.In.{has_member}
use Rattle.matching.proofs.Half.{named, stable_half}
use Rattle.matching.proofs.Stable.{rank, rank_falls}
use Rattle.sheet.specs.Graph.{Graph, InRow, parcels, other, mirror, row_end}
use Rattle.sheet.specs.Check.{Sound, Alike}
use Rattle.sheet.proofs.Facts.{parcel_facts}
use Rattle.pairing.specs.Pairs.{joint, sheet_pairs, pair_key}
use Rattle.pairing.specs.Above.{above, greedy_pairing}
use Rattle.pairing.proofs.Entries.{mirror_in, mirror_back, other_below, one_place}
use Rattle.pairing.proofs.Members.{pair_in}
use Rattle.pairing.proofs.Keys.{itself}
use Rattle.pairing.proofs.Orders.{above_ordered}
use Rattle.pairing.proofs.Compared.{above_key}
use Rattle.records.specs.Records.{record_of, state, chosen_place, astray, Entire}
use Rattle.records.specs.Listed.{lower_pairs}
use Rattle.protocol.specs.World.{World, free}
use Rattle.protocol.specs.Marks.{bid, drop, note_along}
use Rattle.protocol.specs.Turns.{StartAccepted, FetchAccepted, stray}
use Rattle.protocol.specs.History.{Call, After}
use Rattle.protocol.specs.Law.{Settled, SomeTurn, Covers, Covered, Law, pair_value}
use Rattle.protocol.proofs.Core.{Core, Inv, BidSent, pair_at}
use Rattle.protocol.proofs.Entries.{mirror_pair}
use Rattle.protocol.proofs.Step.{joint_other}
use Rattle.protocol.proofs.Used.{used_few, chooses_used, chooses_elsewhere, bid_used, drop_used, bid_elsewhere, drop_elsewhere}
use Rattle.protocol.proofs.Holds.{core_of, Holds, FitsFacts, fits_facts, after_holds, send_room, idle_used}
use Rattle.protocol.proofs.Long.{chooses_long, receives_long}
use Rattle.protocol.proofs.Tops.{can_choose, can_receive, Receipt}
use Rattle.protocol.proofs.Greedy.{recorded_greedy, lone_greedy, entire, lower_stable}

-- a note that waits is for its store
none_has : (l : List Note) (n : Note) → n ∈ l → AllByRecursion (λ x. x.store ≡ n.store → ⊥) l → ⊥
none_has [] n i all = i
none_has (x ∷ l) n (inl e) all = all.0 (ap (λ (y : Note). y.store) (sym e))
none_has (x ∷ l) n (inr i) all = none_has l n i all.1

module _ {K : Type 0} (atleast : K → K → Bool) (laws : Lawful atleast) (t : Graph K) (sound : Sound t) (alike : Alike atleast t) where
  -- with no idle parcel and no note, nobody waits: the choice of one who waits would lead to one who waits for a higher pair, and so on
  module _ (c : Core) (inv : Inv atleast t c) (busy : (u : ℕ) → u < parcels t → c.st u ≡ 0 → ⊥) (quiet : c.notes ≡ []) where
    no_note : (x : Note) → x ∈ c.notes → ⊥
    no_note x i = subst (λ l. x ∈ l) quiet i

    arrived : (u p : ℕ) → BidSent atleast t c u p → c.bd (mirror t u p) ≡ true
    arrived u p = ⊎_elim (λ i. absurd (no_note _ i)) (λ b. b)

    -- the partner that u waits for waits for a higher pair
    higher_waits : (u : ℕ) → u < parcels t → c.st u ≡ 1 → (v : ℕ) × (v < parcels t) × (c.st v ≡ 1) × (above atleast t (pair_at atleast t v (c.at v)) (pair_at atleast t u (c.at u)) ≡ true)
    higher_waits u b one =
        let p = c.at u in
        let row = inv.in_row u b (inl one) in
        let v = other t p in
        let q = mirror t u p in
        let below = other_below t sound u p row in
        let row' = mirror_in t sound u p row in
        let back : mirror t v q ≡ p = mirror_back t sound u p row in
        let q-open : c.opn q ≡ false → ⊥ =
        λ z. ⊎_elim (λ o. both_ways (c.opn p) (ap c.opn (sym back) ∙ o) (inv.wait_open u b one)) (λ i. no_note _ i) (inv.struck_both v q row' z) in
        let unbid : c.bd (mirror t v q) ≡ true → ⊥ = λ z. both_ways (c.bd p) (inv.wait_unbid u b one) (ap c.bd (sym back) ∙ z) in
        let not_at : (c.st v ≡ 1) ⊎ (c.st v ≡ 2) → c.at v ≡ q → ⊥ = λ ch e. unbid (arrived v q (subst (BidSent atleast t c v) e (inv.bid_sent v below ch))) in
        let not-two : c.st v ≡ 2 → ⊥ = λ two. q-open (inv.pair_struck v below two q row' (λ e. not_at (inr two) (sym e))) in
        let not_three : c.st v ≡ 3 → ⊥ = λ three. q-open (inv.lone_struck v below three q row') in
        let waits : c.st v ≡ 1 = one_left (c.st v) (inv.small v below) (busy v below) not-two not_three in
        let row'' = inv.in_row v below (inl waits) in
        let differs : pair_at atleast t v (c.at v) ≡ pair_at atleast t v q → ⊥ =
        λ e. not_at (inl waits) (one_place t sound v (c.at v) q row'' row' (joint_other atleast laws t sound alike v (other t (c.at v)) (other t q) e)) in
        let over : above atleast t (pair_at atleast t v (c.at v)) (pair_at atleast t v q) ≡ true =
        ⊎_elim (λ h. h) (λ h. absurd (q-open (inv.wait_first v below waits q row' h))) ((above_ordered atleast laws t).ranks (pair_at atleast t v (c.at v)) (pair_at atleast t v q) differs) in
        (v, below, waits, subst (λ x. above atleast t (pair_at atleast t v (c.at v)) x ≡ true) (mirror_pair t sound atleast u p row) over)
      where
        one_left : (s : ℕ) → s ≤ 3 → (s ≡ 0 → ⊥) → (s ≡ 2 → ⊥) → (s ≡ 3 → ⊥) → s ≡ 1
        one_left zero _ n _ _ = absurd (n refl)
        one_left (suc zero) _ _ _ _ = refl
        one_left (suc (suc zero)) _ _ n _ = absurd (n refl)
        one_left (suc (suc (suc zero))) _ _ _ n = absurd (n refl)
        one_left (suc (suc (suc (suc s)))) less _ _ _ = absurd (omega (arith, less))

    none_waits_by : (n u : ℕ) → u < parcels t → c.st u ≡ 1 → rank (above atleast t) (above_ordered atleast laws t) (sheet_pairs t) (pair_at atleast t u (c.at u)) < n → ⊥
    none_waits_by zero u b one less = omega arith
    none_waits_by (suc n) u b one less =
        let h = higher_waits u b one in
        let v = h.0 in
        let falls = rank_falls (above atleast t) (above_ordered atleast laws t) (sheet_pairs t) (pair_at atleast t v (c.at v)) (pair_at atleast t u (c.at u)) (pair_in t sound v (c.at v) (inv.in_row v h.1 (inl h.2))) h.3 in
        none_waits_by n v h.1 h.2 (omega arith)

    pub none_waits : (u : ℕ) → u < parcels t → c.st u ≡ 1 → ⊥
    none_waits u b one = none_waits_by (suc (rank (above atleast t) (above_ordered atleast laws t) (sheet_pairs t) (pair_at atleast t u (c.at u)))) u b one (omega arith)

  -- a bounded search: some number below n, or none
  some_below : (f : ℕ → Bool) (n : ℕ) → ((u : ℕ) × (u < n) × (f u ≡ true)) ⊎ ((u : ℕ) → u < n → f u ≡ false)
  some_below f zero = inr (λ u less. absurd (omega arith))
  some_below f (suc n) =
      ⊎_elim (λ s. inl (s.0, omega (arith, s.1), s.2))
      (λ none. ⊎_elim (λ h. inl (n, omega arith, h)) (λ z. inr (λ u less. ⊎_elim (λ (e : u ≡ n). ap f e ∙ z) (λ not. none u (omega arith)) (cases_eq u n))) (cases_Bool (f n)))
      (some_below f n)

  module _ (w : World) (holds : Holds atleast laws t sound alike w) where
    facts : FitsFacts t w
    facts = fits_facts t w holds.fitting

    -- an idle parcel's start would be accepted
    start_accepted : (u : ℕ) → u < parcels t → state w.records u ≡ 0 → StartAccepted atleast t w u
    start_accepted u parcel idle =
        let c = can_choose atleast laws t sound alike u parcel w.marks facts.marks_long in
        record {
          parcel = parcel;
          fitting = holds.fitting;
          idle = idle;
          record' = c.record';
          marks' = c.marks';
          out = c.out;
          chooses = c.chooses;
          room = send_room atleast laws t sound alike w holds u parcel c.record' c.marks' c.out (chooses_long c.chooses) (chooses_elsewhere t atleast u parcel w.marks c.chooses)
              (omega (arith, idle_used atleast laws t sound alike w u idle, chooses_used t atleast u parcel w.marks c.chooses));
        }

    -- a record is never astray
    not_astray : (u : ℕ) → u < parcels t → astray t w.records u ≡ false
    not_astray u b =
        let s = state w.records u in
        let inv = holds.claims in
        or_from (ltb 3 s) ((eqb s 1 || eqb s 2) && leb (row_end t u) (chosen_place t w.records u)) (le-ltb 3 s (inv.small u b))
        (⊎_elim
        (λ ch. and_right (eqb s 1 || eqb s 2) (leb (row_end t u) (chosen_place t w.records u)) (lt-leb (row_end t u) (chosen_place t w.records u) (inv.in_row u b (chose ch)).to))
        (λ z. and_left (eqb s 1 || eqb s 2) (leb (row_end t u) (chosen_place t w.records u)) z)
        (cases_Bool (eqb s 1 || eqb s 2)))
      where
        chose : (eqb (state w.records u) 1 || eqb (state w.records u) 2) ≡ true → (state w.records u ≡ 1) ⊎ (state w.records u ≡ 2)
        chose h = ⊎_elim (λ e. inl (eqb-true (state w.records u) 1 e)) (λ e. inr (eqb-true (state w.records u) 2 e)) (or_cases (eqb (state w.records u) 1) (eqb (state w.records u) 2) h)

    -- a note along an entry, for its addressee's store, is received
    record Comes (s : ℕ) (n : Note) : Type 0 where
      parcel : n.addressee < parcels t
      comes : stray atleast t s n ≡ false
      receipt : Receipt atleast t n (record_of w.records n.addressee) w.marks
      room : length receipt.out ≤ free w

    not_stray : (s from p k : ℕ) → InRow t from p → (k ≡ 1) ⊎ (k ≡ 2) → get_or t.stores (other t p) 0 ≡ s → stray atleast t s (note_along t k from p) ≡ false
    not_stray s from p k row kind here =
        let a = other t p in
        or_from (not (ltb a (parcels t))) _ (not_from_true (ltb a (parcels t)) (lt-ltb a (parcels t) (other_below t sound from p row)))
        (or_from (not (eqb (get_or t.stores a 0) s)) _ (not_from_true (eqb (get_or t.stores a 0) s) (eq-eqb (get_or t.stores a 0) s here))
        (or_from (not (ltb (mirror t from p) (row_end t a))) _ (not_from_true (ltb (mirror t from p) (row_end t a)) (lt-ltb (mirror t from p) (row_end t a) (mirror_in t sound from p row).to))
        (not_from_true (eqb k 1 || eqb k 2) (⊎_elim (λ e. or_left (eqb k 1) (eqb k 2) (eq-eqb k 1 e)) (λ e. or_right (eqb k 1) (eqb k 2) (eq-eqb k 2 e)) kind))))

    comes_along : (s : ℕ) (n : Note) → n ∈ w.waiting → n.store ≡ s → Comes s n
    comes_along s n i here =
        let a = holds.claims.along n i in
        let from = a.from in
        let p = a.place in
        let row = a.within in
        let below = other_below t sound from p row in
        let rs = w.records in
        ⊎_elim
        (λ (e : n ≡ bid t from p).
        let r = can_receive atleast laws t sound alike (bid t from p) (record_of rs (other t p)) w.marks below facts.marks_long (inl refl) in
        subst (Comes s) (sym e) (record {
          parcel = below;
          comes = not_stray s from p 1 row (inl refl) (ap (λ (x : Note). x.store) (sym e) ∙ here);
          receipt = r;
          room = send_room atleast laws t sound alike w holds (other t p) below r.record' r.marks' r.out (receives_long r.receives)
              (bid_elsewhere atleast laws t sound alike from p row w.marks facts.marks_long (record_of rs (other t p)) r.receives)
              (bid_used atleast laws t sound alike from p row w.marks facts.marks_long (record_of rs (other t p)) r.receives);
        }))
        (λ (e : n ≡ drop t from p).
        let r = can_receive atleast laws t sound alike (drop t from p) (record_of rs (other t p)) w.marks below facts.marks_long (inr refl) in
        subst (Comes s) (sym e) (record {
          parcel = below;
          comes = not_stray s from p 2 row (inr refl) (ap (λ (x : Note). x.store) (sym e) ∙ here);
          receipt = r;
          room = send_room atleast laws t sound alike w holds (other t p) below r.record' r.marks' r.out (receives_long r.receives)
              (drop_elsewhere atleast laws t sound alike from p row w.marks facts.marks_long (record_of rs (other t p)) r.receives)
              (drop_used atleast laws t sound alike from p row w.marks facts.marks_long (record_of rs (other t p)) r.receives);
        }))
        a.is

    -- a store for which a note waits: its fetch would be accepted
    fetch_accepted : lines.Lawful w.waiting w.capacity w.next → (n : Note) → n ∈ w.waiting → FetchAccepted atleast t w n.store
    fetch_accepted law n i = by_next (w.next n.store) refl (law.choice n.store)
      where
        store_below : n.store < t.limit
        store_below =
            let a = holds.claims.along n i in
            let f = parcel_facts t (other t a.place) (sound.parcel (other t a.place) (other_below t sound a.from a.place a.within)) in
            ⊎_elim (λ e. subst (λ x. x < t.limit) (ap (λ (x : Note). x.store) (sym e)) f.stored) (λ e. subst (λ x. x < t.limit) (ap (λ (x : Note). x.store) (sym e)) f.stored) a.is

        by_next : (o : Option Note) → w.next n.store ≡ o → lines.Choice w.waiting n.store o → FetchAccepted atleast t w n.store
        by_next None e none = absurd (none_has w.waiting n i none)
        by_next (Some x) e has =
            let c = comes_along n.store x (has_member w.waiting x has.0) has.1 in
            record {
              store = store_below;
              fitting = holds.fitting;
              note = x;
              next = e;
              comes = c.comes;
              right = not_astray x.addressee c.parcel;
              record' = c.receipt.record';
              marks' = c.receipt.marks';
              out = c.receipt.out;
              receives = c.receipt.receives;
              room = omega (arith, c.room);
            }

    -- a store that is handed a note: its fetch would be accepted
    next_accepted : lines.Lawful w.waiting w.capacity w.next → (s : ℕ) (o : Option Note) → w.next s ≡ o → is_some o ≡ true → FetchAccepted atleast t w s
    next_accepted law s None e some = absurd (false≢true some)
    next_accepted law s (Some n) e some =
        let has = subst (lines.Choice w.waiting s) e (law.choice s) in
        subst (FetchAccepted atleast t w) has.1 (fetch_accepted law n (has_member w.waiting n has.0))

    pub goes_on : lines.Lawful w.waiting w.capacity w.next → (Settled t w → ⊥) → SomeTurn atleast t w
    goes_on law unsettled =
        ⊎_elim
        (λ idle. inl (idle.0, start_accepted idle.0 idle.1 (eqb-true (state w.records idle.0) 0 idle.2)))
        (λ none.
        let busy : (u : ℕ) → u < parcels t → state w.records u ≡ 0 → ⊥ = λ u b z. both_ways (eqb (state w.records u) 0) (none u b) (eq-eqb (state w.records u) 0 z) in
        ⊎_elim
        (λ (some : (n : Note) × (n ∈ w.waiting)). inr (some.0.store, fetch_accepted law some.0 some.1))
        (λ (quiet : w.waiting ≡ []). absurd (unsettled (record {
          decided = λ u b. two_left (state w.records u) (holds.claims.small u b) (busy u b) (none_waits (core_of atleast laws t sound alike w) holds.claims busy quiet u b);
          empty = quiet;
        })))
        (some_note w.waiting))
        (some_below (λ u. eqb (state w.records u) 0) (parcels t))
      where
        some_note : (l : List Note) → ((n : Note) × (n ∈ l)) ⊎ (l ≡ [])
        some_note [] = inr refl
        some_note (n ∷ l) = inl (n, inl refl)

        two_left : (s : ℕ) → s ≤ 3 → (s ≡ 0 → ⊥) → (s ≡ 1 → ⊥) → (s ≡ 2) ⊎ (s ≡ 3)
        two_left zero _ n _ = absurd (n refl)
        two_left (suc zero) _ _ n = absurd (n refl)
        two_left (suc (suc zero)) _ _ _ = inl refl
        two_left (suc (suc (suc zero))) _ _ _ = inr refl
        two_left (suc (suc (suc (suc s)))) less _ _ = absurd (omega (arith, less))

    pub stops : lines.Lawful w.waiting w.capacity w.next → SomeTurn atleast t w → Settled t w → ⊥
    stops law turn settled =
        ⊎_elim
        (λ (s : (u : ℕ) × StartAccepted atleast t w u). ⊎_elim (λ e. omega (arith, e, s.1.idle)) (λ e. omega (arith, e, s.1.idle)) (settled.decided s.0 s.1.parcel))
        (λ (f : (s : ℕ) × FetchAccepted atleast t w s).
        let has = subst (lines.Choice w.waiting f.0) f.1.next (law.choice f.0) in
        subst (λ l. f.1.note ∈ l) settled.empty (has_member w.waiting f.1.note has.0)) turn

    inv : Inv atleast t (core_of atleast laws t sound alike w)
    inv = holds.claims

    covers : (o n : Pair) → Answers (above atleast t) (lower_pairs t w.records) o n → Covers atleast t w o n
    covers o n a = record {
      recorded = a.chosen;
      shares = a.touches;
      as_high = ⊎_elim (λ e. ap (λ x. lifted atleast (pair_key t n) (pair_key t x)) e ∙ itself (lifted atleast) (lifted_lawful atleast laws) (pair_key t n)) (above_key atleast laws t n o) a.as_high;
    }

    each_covers : (O names : List Pair) → AllZip (Answers (above atleast t) (lower_pairs t w.records)) O names → AllZip (Covers atleast t w) O names
    each_covers [] [] each = each
    each_covers [] (n ∷ names) each = each
    each_covers (o ∷ O) [] each = each
    each_covers (o ∷ O) (n ∷ names) each = (covers o n each.0, each_covers O names each.1)

    module _ (settled : Settled t w) where
      whole : Entire t w.records (greedy_pairing atleast t)
      whole = entire atleast laws t sound alike (core_of atleast laws t sound alike w) inv settled.decided w.records facts.records_long (λ u. refl) (λ u. refl)

      steady : Stable (above atleast t) (sheet_pairs t) (lower_pairs t w.records)
      steady = lower_stable atleast laws t sound alike (core_of atleast laws t sound alike w) inv settled.decided w.records facts.records_long (λ u. refl) (λ u. refl)

      covered : (O : List Pair) → Pairing (sheet_pairs t) O → Covered atleast t w O
      covered O pairing =
          let n = named (above atleast t) (lower_pairs t w.records) (sheet_pairs t) steady O pairing in
          record { names = n.names; each = each_covers O n.names n.answer; twice = n.twice }

      module _ (value : K → ℕ) (by_value : (a b : K) → atleast a b ≡ leb (value b) (value a)) where
        no_more : (a b : Option K) → lifted atleast a b ≡ true → unwrap_or (option_map value b) 0 ≤ unwrap_or (option_map value a) 0
        no_more a None e = omega arith
        no_more None (Some b) e = absurd (false≢true e)
        no_more (Some a) (Some b) e = leb-true (value b) (value a) (sym (by_value a b) ∙ e)

        half : (O : List Pair) → Pairing (sheet_pairs t) O → sum_by (pair_value value t) O ≤ 2 * sum_by (pair_value value t) (lower_pairs t w.records)
        half O = stable_half (above atleast t) (pair_value value t) (sheet_pairs t) (lower_pairs t w.records) O (λ p q _ a. no_more (pair_key t p) (pair_key t q) (above_key atleast laws t p q a)) steady

    pub law_from : lines.Lawful w.waiting w.capacity w.next → Law atleast t w
    law_from law = record {
      pair = λ u v r. subst (λ x. joint u x ∈ greedy_pairing atleast t) r.with' (recorded_greedy atleast laws t sound alike (core_of atleast laws t sound alike w) inv u r.parcel r.paired);
      lone = lone_greedy atleast laws t sound alike (core_of atleast laws t sound alike w) inv;
      entire = whole;
      in_range = not_astray;
      balance = holds.balance;
      few = omega (arith, holds.used, used_few t sound w.records w.marks);
      goes_on = goes_on law;
      stops = stops law;
      starts = start_accepted;
      fetches = λ s _ some. next_accepted law s (w.next s) refl some;
      covered = covered;
      half = half;
    }

  -- after every list of calls since open
  pub law_of_rounds : {calls : List Call} {w : World} → After atleast t calls w → lines.Lawful w.waiting w.capacity w.next → Law atleast t w
  law_of_rounds {calls} {w} after = law_from w (after_holds atleast laws t sound alike after)
