-- How many entries are used: struck, or the choice of a parcel that waits or is paired. A turn sends no more notes than it newly uses. Assumes nothing.
use Rattle.std.proofs.Common.{◌≡◌, ℕ, zero, suc, ◌+◌, ◌-◌, ◌<◌, ◌≤◌, Bool, true, false, not, ◌&&◌, ◌||◌, eqb, ◌⊎◌, List, length, get_or, sum_by, count_by, sym, refl, ap, ◌∙◌, subst, inl, inr, ⊎_elim, arith}
use Rattle.std.specs.List.{range_with_len}
use Rattle.std.proofs.lemmas.List.Sums.{sum_by-cons, length-filter, count_by-le-length}
use Rattle.std.proofs.lemmas.List.{length-map}
use Rattle.std.proofs.lemmas.Bool.Decides.{nat_tests}
use Rattle.std.proofs.lemmas.Bool.{cases_lt, cases_eq, cases_Bool, both_ways, or_left, or_right, or_cases, not_from_false, not_from_true, not-true, and_parts, and_from, eq-eqb, eqb-true, eqb-false, cond-true, cond-false}
use Rattle.line.specs.declared.Note.{Note}
use Rattle.line.proofs.Updated.{upd_same, upd_other}
use Rattle.records.specs.declared.record.Record.{Record}
use Rattle.records.specs.Records.{state, chosen_place}
use Rattle.ranking.specs.Law.{Lawful}
use Rattle.matching.specs.Pairs.{◌∈◌}
use Rattle.sheet.specs.Graph.{Graph, InRow, parcels, entries, other, mirror, row_start, row_end, bare_right}
use Rattle.sheet.specs.Check.{Sound, Alike}
use Rattle.pairing.proofs.Entries.{mirror_in}
use Rattle.sheet.proofs.Facts.{parcel_facts}
use Rattle.protocol.specs.Marks.{open', bid, drop, strike, let_go, open_others, places}
use Rattle.protocol.specs.Steps.{LetsGo, Chooses, alone, waits, pairs, Receives, hears, agrees, loses, turns, heard, dropped, awaited, entry_of}
use Rattle.protocol.proofs.Marks.{struck_closed, same_open, gone_facts, facts_gone, place_in, in_places}
use Rattle.protocol.proofs.Step.{heard_opens, dropped_opens}
use Rattle.protocol.proofs.Sums.{sum_le, count_two, count_in, count_more, length_places_from}

-- the entry at place x is used: it is struck, or the parcel of its row, of this state and chosen place, chose it
abbrev pub used : ℕ → ℕ → List ℕ → ℕ → Bool
used st at m x = not (open' m x) || ((eqb st 1 || eqb st 2) && eqb at x)

pub struck_used : (st at : ℕ) (m : List ℕ) (x : ℕ) → open' m x ≡ false → used st at m x ≡ true
struck_used st at m x z = or_left (not (open' m x)) ((eqb st 1 || eqb st 2) && eqb at x) (not_from_false (open' m x) z)

pub chosen_used : (st at : ℕ) (m : List ℕ) (x : ℕ) → (eqb st 1 || eqb st 2) ≡ true → at ≡ x → used st at m x ≡ true
chosen_used st at m x ch e = or_right (not (open' m x)) ((eqb st 1 || eqb st 2) && eqb at x) (and_from (eqb st 1 || eqb st 2) (eqb at x) ch (eq-eqb at x e))

pub used_cases : (st at : ℕ) (m : List ℕ) (x : ℕ) → used st at m x ≡ true → (open' m x ≡ false) ⊎ (((eqb st 1 || eqb st 2) ≡ true) × (at ≡ x))
used_cases st at m x h =
    ⊎_elim (λ z. inl (not-true (open' m x) z)) (λ z. let k = and_parts (eqb st 1 || eqb st 2) (eqb at x) z in inr (k.0, eqb-true at x k.1)) (or_cases (not (open' m x)) ((eqb st 1 || eqb st 2) && eqb at x) h)

module _ {K : Type 0} (t : Graph K) where
  -- how many entries of row u are used
  abbrev pub row_used : List Record → List ℕ → ℕ → ℕ
  row_used rs m u = count_by (used (state rs u) (chosen_place t rs u) m) (places t u)

  -- how many entries are used
  abbrev pub used_count : List Record → List ℕ → ℕ
  used_count rs m = sum_by (row_used rs m) (range_with_len 0 (parcels t))

  module _ (sound : Sound t) where
    rows_long : (n a : ℕ) → a + n ≤ parcels t → sum_by (λ u. row_end t u - row_start t u) (range_with_len a n) + row_start t a ≡ row_start t (a + n)
    rows_long zero a fits = let e : row_start t a ≡ row_start t (a + 0) = ap (row_start t) (omega arith) in omega (arith, e)
    rows_long (suc n) a fits =
        let f = parcel_facts t a (sound.parcel a (omega arith)) in
        let rest = rows_long n (a + 1) (omega arith) in
        let e : row_start t (a + 1 + n) ≡ row_start t (a + suc n) = ap (row_start t) (omega arith) in
        omega (arith, sum_by-cons (λ u. row_end t u - row_start t u) a (range_with_len (a + 1) n), rest, e, f.forward)

    -- the rows end with the entries
    last_row : row_start t (parcels t) ≤ entries t
    last_row =
        ⊎_elim
        (λ (some : 0 < parcels t).
        let e : row_start t (parcels t) ≡ row_end t (parcels t - 1) = ap (row_start t) (omega arith) in
        omega (arith, e, (parcel_facts t (parcels t - 1) (sound.parcel (parcels t - 1) (omega arith))).within))
        (λ none.
        let e : row_start t (parcels t) ≡ row_start t 0 = ap (row_start t) (omega arith) in
        let z : row_start t 0 ≡ 0 = bare_begins sound.bare (omega arith) in
        omega (arith, e, z))
        (cases_lt 0 (parcels t))
      where
        bare_begins : bare_right t ≡ true → parcels t ≡ 0 → row_start t 0 ≡ 0
        bare_begins b n = grind (arith, nat_tests)

    pub used_few : (rs : List Record) (m : List ℕ) → used_count rs m ≤ entries t
    used_few rs m =
        let each : (u : ℕ) → row_used rs m u ≤ row_end t u - row_start t u =
        λ u. omega (arith, count_by-le-length (used (state rs u) (chosen_place t rs u) m) (places t u), length_places_from (row_end t u - row_start t u) (row_start t u)) in
        let sums = sum_le (row_used rs m) (λ u. row_end t u - row_start t u) (parcels t) 0 (λ u _ _. each u) in
        let all = rows_long (parcels t) 0 (omega arith) in
        let end : row_start t (0 + parcels t) ≡ row_start t (parcels t) = ap (row_start t) (omega arith) in
        omega (arith, sums, all, end, last_row)

  -- of a parcel that lets go: each drop is for an entry that is newly struck
  module _ (u p : ℕ) (parcel : u < parcels t) (m m' : List ℕ) (out : List Note) (go : LetsGo t u p m m' out) where
    pub struck_stays : (x : ℕ) → open' m x ≡ false → open' m' x ≡ false
    struck_stays x z =
        ⊎_elim (λ g. absurd (both_ways (open' m x) z (gone_facts t u parcel m p x g).1))
        (λ n. same_open m m' x x (go.struck x ∙ cond-false (let_go t m u p x) (strike (get_or m x 0)) (get_or m x 0) n) ∙ z) (cases_Bool (let_go t m u p x))

    gone_struck : (x : ℕ) → InRow t u x → open' m x ≡ true → (x ≡ p → ⊥) → open' m' x ≡ false
    gone_struck x e o n = struck_closed m' x (get_or m x 0) (go.struck x ∙ cond-true (let_go t m u p x) (strike (get_or m x 0)) (get_or m x 0) (facts_gone t u parcel m p x e o n))

    pub go_elsewhere : (x : ℕ) → (InRow t u x → ⊥) → open' m' x ≡ open' m x
    go_elsewhere x far =
        ⊎_elim (λ g. absurd (far (gone_facts t u parcel m p x g).0)) (λ n. same_open m m' x x (go.struck x ∙ cond-false (let_go t m u p x) (strike (get_or m x 0)) (get_or m x 0) n)) (cases_Bool (let_go t m u p x))

    drops_counted : length out ≡ count_by (λ q. open' m q && not (eqb q p)) (places t u)
    drops_counted = ap length go.drops ∙ length-map (open_others t m u p) (drop t u) ∙ length-filter (λ q. open' m q && not (eqb q p)) (places t u)

    other_parts : (x : ℕ) → (open' m x && not (eqb x p)) ≡ true → (open' m x ≡ true) × (x ≡ p → ⊥)
    other_parts x h = let k = and_parts (open' m x) (not (eqb x p)) h in (k.0, eqb-false x p (not-true (eqb x p) k.1))

    -- it newly uses what it drops
    pub drops_used : (before : ℕ → Bool) (st at : ℕ) → ((x : ℕ) → x ∈ places t u → before x ≡ true → used st at m' x ≡ true) → ((x : ℕ) → before x ≡ true → (open' m x ≡ false) ⊎ (p ≡ x)) → count_by before (places t u) + length out ≤ count_by (used st at m') (places t u)
    drops_used before st at stays was =
        omega (
          arith,
          drops_counted,
          count_two before (λ q. open' m q && not (eqb q p)) (used st at m') (places t u)
              (λ x i. (
                stays x i,
                λ h. let k = other_parts x h in struck_used st at m' x (gone_struck x (in_places t u parcel x i) k.0 k.1),
                λ b h. let k = other_parts x h in ⊎_elim (λ z. both_ways (open' m x) z k.0) (λ e. k.1 (sym e)) (was x b),
              )),
        )

    -- and with the entry that it chose, if that was open, one more
    pub all_used : (st at : ℕ) → (eqb st 1 || eqb st 2) ≡ true → at ≡ p → InRow t u p → open' m p ≡ true → count_by (λ x. not (open' m x)) (places t u) + (1 + length out) ≤ count_by (used st at m') (places t u)
    all_used st at ch is e o =
        let before : ℕ → Bool = λ x. not (open' m x) || eqb x p in
        let one : count_by (λ x. not (open' m x)) (places t u) + 1 ≤ count_by before (places t u) =
        count_more (λ x. not (open' m x)) before (places t u) p (λ x _ h. or_left (not (open' m x)) (eqb x p) h) (place_in t u parcel p e) (not_from_true (open' m p) o) (or_right (not (open' m p)) (eqb p p) (eq-eqb p p refl)) in
        let rest = drops_used before st at
        (λ x _ h. ⊎_elim (λ z. struck_used st at m' x (struck_stays x (not-true (open' m x) z))) (λ z. chosen_used st at m' x ch (is ∙ sym (eqb-true x p z))) (or_cases (not (open' m x)) (eqb x p) h))
        (λ x h. ⊎_elim (λ z. inl (not-true (open' m x) z)) (λ z. inr (sym (eqb-true x p z))) (or_cases (not (open' m x)) (eqb x p) h)) in
        omega (arith, one, rest)

  -- a parcel that chooses sends no more notes than it newly uses
  pub chooses_used : (atleast : K → K → Bool) (u : ℕ) → u < parcels t → (m : List ℕ) {r : Record} {m' : List ℕ} {out : List Note} → Chooses atleast t u m r m' out → count_by (λ x. not (open' m x)) (places t u) + length out ≤ count_by (used r.state (row_start t u + r.choice) m') (places t u)
  chooses_used atleast u parcel m (alone none) =
      omega (arith, count_in (λ x. not (open' m x)) (used 3 (row_start t u + 0) m) (places t u) (λ x _ h. struck_used 3 (row_start t u + 0) m x (not-true (open' m x) h)))
  chooses_used atleast u parcel m (waits {p} top unbid) =
      let at = row_start t u + (p - row_start t u) in
      let is : at ≡ p = omega (arith, top.within.from) in
      count_more (λ x. not (open' m x)) (used 1 at m) (places t u) p (λ x _ h. struck_used 1 at m x (not-true (open' m x) h)) (place_in t u parcel p top.within) (not_from_true (open' m p) top.candidate) (chosen_used 1 at m p refl is)
  chooses_used atleast u parcel m (pairs {p} {m'} {out} top _ go) =
      let at = row_start t u + (p - row_start t u) in
      let is : at ≡ p = omega (arith, top.within.from) in
      let all = all_used u p parcel m m' out go 2 at refl is top.within top.candidate in
      omega (arith, all)

  -- choosing leaves the marks of other rows
  pub chooses_elsewhere : (atleast : K → K → Bool) (u : ℕ) → u < parcels t → (m : List ℕ) {r : Record} {m' : List ℕ} {out : List Note} → Chooses atleast t u m r m' out → (x : ℕ) → (InRow t u x → ⊥) → open' m' x ≡ open' m x
  chooses_elsewhere atleast u parcel m (alone none) x far = refl
  chooses_elsewhere atleast u parcel m (waits top unbid) x far = refl
  chooses_elsewhere atleast u parcel m (pairs {p} {m'} {out} top _ go) x far = go_elsewhere u p parcel m m' out go x far

-- what a waiting addressee's record says
pub awaited_facts : {K : Type 0} (t : Graph K) (n : Note) (r : Record) → awaited t n r ≡ true → (r.state ≡ 1) × (row_start t n.addressee + r.choice ≡ entry_of t n)
awaited_facts t n r aw =
    let k = and_parts (eqb r.state 1) (eqb (row_start t n.addressee + r.choice) (entry_of t n)) aw in
    (eqb-true r.state 1 k.0, eqb-true (row_start t n.addressee + r.choice) (entry_of t n) k.1)

module _ {K : Type 0} (atleast : K → K → Bool) (laws : Lawful atleast) (t : Graph K) (sound : Sound t) (alike : Alike atleast t) (s p : ℕ) (along : InRow t s p) (m : List ℕ) (long : length m ≡ entries t) (r : Record) where
  here : InRow t (other t p) (mirror t s p)
  here = mirror_in t sound s p along

  parcel : other t p < parcels t
  parcel = here.parcel

  at_row : row_start t (other t p) + (mirror t s p - row_start t (other t p)) ≡ mirror t s p
  at_row = omega (arith, here.from)

  dropped_struck : (x : ℕ) → open' m x ≡ false → open' (dropped t (drop t s p) m) x ≡ false
  dropped_struck x z =
      ⊎_elim (λ e. dropped_opens atleast laws t sound alike s p along m long x ∙ upd_same (open' m) (mirror t s p) false x e)
      (λ n. dropped_opens atleast laws t sound alike s p along m long x ∙ upd_other (open' m) (mirror t s p) false x n ∙ z) (cases_eq x (mirror t s p))

  -- a parcel that receives a note sends no more than it newly uses
  pub bid_used : {r' : Record} {m' : List ℕ} {out : List Note} → Receives atleast t (bid t s p) r m r' m' out → count_by (used r.state (row_start t (other t p) + r.choice) m) (places t (other t p)) + length out ≤ count_by (used r'.state (row_start t (other t p) + r'.choice) m') (places t (other t p))
  bid_used (hears _ _) =
      let at = row_start t (other t p) + r.choice in
      let m' = heard t (bid t s p) m in
      omega (
        arith,
        count_in (used r.state at m) (used r.state at m') (places t (other t p))
            (λ x _ h. ⊎_elim (λ z. struck_used r.state at m' x (heard_opens atleast laws t sound alike s p along m long x ∙ z)) (λ k. chosen_used r.state at m' x k.0 k.1) (used_cases r.state at m x h)),
      )
  bid_used (agrees {m'} {out} _ aw go) =
      let at = row_start t (other t p) + r.choice in
      let m1 = heard t (bid t s p) m in
      let q = mirror t s p in
      let k = awaited_facts t (bid t s p) r aw in
      let was : (x : ℕ) → used r.state at m x ≡ true → (open' m1 x ≡ false) ⊎ (q ≡ x) =
      λ x h. ⊎_elim (λ z. inl (heard_opens atleast laws t sound alike s p along m long x ∙ z)) (λ j. inr (sym k.1 ∙ j.1)) (used_cases r.state at m x h) in
      let at' = row_start t (other t p) + (q - row_start t (other t p)) in
      drops_used t (other t p) q parcel m1 m' out go (used r.state at m) 2 at'
      (λ x _ h. ⊎_elim (λ z. struck_used 2 at' m' x (struck_stays t (other t p) q parcel m1 m' out go x z)) (λ e. chosen_used 2 at' m' x refl (at_row ∙ e)) (was x h))
      was
  bid_used (loses e _) = absurd (omega (arith, e))
  bid_used (turns e _ _) = absurd (omega (arith, e))

  pub drop_used : {r' : Record} {m' : List ℕ} {out : List Note} → Receives atleast t (drop t s p) r m r' m' out → count_by (used r.state (row_start t (other t p) + r.choice) m) (places t (other t p)) + length out ≤ count_by (used r'.state (row_start t (other t p) + r'.choice) m') (places t (other t p))
  drop_used (hears e _) = absurd (omega (arith, e))
  drop_used (agrees e _ _) = absurd (omega (arith, e))
  drop_used (loses _ _) =
      let at = row_start t (other t p) + r.choice in
      let m' = dropped t (drop t s p) m in
      omega (
        arith,
        count_in (used r.state at m) (used r.state at m') (places t (other t p))
            (λ x _ h. ⊎_elim (λ z. struck_used r.state at m' x (dropped_struck x z)) (λ k. chosen_used r.state at m' x k.0 k.1) (used_cases r.state at m x h)),
      )
  drop_used (turns {r'} {m'} {out} _ aw ch) =
      let at = row_start t (other t p) + r.choice in
      let m1 = dropped t (drop t s p) m in
      let k = awaited_facts t (drop t s p) r aw in
      let first = count_in (used r.state at m) (λ x. not (open' m1 x)) (places t (other t p))
      (λ x _ h. not_from_false (open' m1 x) (⊎_elim (dropped_struck x) (λ j. dropped_opens atleast laws t sound alike s p along m long x ∙ upd_same (open' m) (mirror t s p) false x (sym j.1 ∙ k.1)) (used_cases r.state at m x h))) in
      omega (arith, first, chooses_used t atleast (other t p) parcel m1 ch)

  -- and leaves the marks of other rows
  pub bid_elsewhere : {r' : Record} {m' : List ℕ} {out : List Note} → Receives atleast t (bid t s p) r m r' m' out → (x : ℕ) → (InRow t (other t p) x → ⊥) → open' m' x ≡ open' m x
  bid_elsewhere (hears _ _) x far = heard_opens atleast laws t sound alike s p along m long x
  bid_elsewhere (agrees {m'} {out} _ aw go) x far = go_elsewhere t (other t p) (mirror t s p) parcel (heard t (bid t s p) m) m' out go x far ∙ heard_opens atleast laws t sound alike s p along m long x
  bid_elsewhere (loses e _) x far = absurd (omega (arith, e))
  bid_elsewhere (turns e _ _) x far = absurd (omega (arith, e))

  dropped_far : (x : ℕ) → (InRow t (other t p) x → ⊥) → open' (dropped t (drop t s p) m) x ≡ open' m x
  dropped_far x far = dropped_opens atleast laws t sound alike s p along m long x ∙ upd_other (open' m) (mirror t s p) false x (λ e. far (subst (InRow t (other t p)) (sym e) here))

  pub drop_elsewhere : {r' : Record} {m' : List ℕ} {out : List Note} → Receives atleast t (drop t s p) r m r' m' out → (x : ℕ) → (InRow t (other t p) x → ⊥) → open' m' x ≡ open' m x
  drop_elsewhere (hears e _) x far = absurd (omega (arith, e))
  drop_elsewhere (agrees e _ _) x far = absurd (omega (arith, e))
  drop_elsewhere (loses _ _) x far = dropped_far x far
  drop_elsewhere (turns {r'} {m'} {out} _ aw ch) x far = chooses_elsewhere t atleast (other t p) parcel (dropped t (drop t s p) m) ch x far ∙ dropped_far x far
