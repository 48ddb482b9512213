-- What holds after every list of calls. Assumes nothing.
use Rattle.std.proofs.Common.{◌≡◌, ℕ, zero, suc, ◌+◌, ◌<◌, ◌≤◌, min, Bool, true, false, cond, not, ◌&&◌, ◌||◌, eqb, leb, List, ◌∷◌, ◌++◌, length, set, Ok, Err, sum_by, count_by, Result, sym, refl, ap, ◌∙◌, subst, inl, ⊎_elim, arith}
use lib.Bits.{bit_and}
use Rattle.std.specs.List.{range_with_len}
use Rattle.std.proofs.lemmas.List.FromFn.{length-range_with_len}
use Rattle.std.proofs.lemmas.List.Sums.{sum_by-cons, count_by-le-length}
use Rattle.std.proofs.lemmas.List.Sorted.{length_permutation, IsPermutation-refl}
use Rattle.std.proofs.lemmas.List.{get_or-set_same, get_or-set_other, length-append, length-set}
use Rattle.std.proofs.lemmas.Bool.{cases_eq, both_ways}
use Rattle.std.proofs.lemmas.Bool.Decides.{nat_tests}
use Rattle.faults.specs.declared.Refusal.{Refusal}
use Rattle.line.specs.declared.Note.{Note}
use Rattle.line.proofs.Updated.{upd, upd_same, upd_other}
use Rattle.records.specs.declared.record.Record.{Record}
use Rattle.records.specs.Records.{record_of, state, chosen_place}
use Rattle.ranking.specs.Law.{Lawful}
use Rattle.matching.specs.Pairs.{◌∈◌}
use Rattle.matching.proofs.In.{in_shuffled, in_unshuffled}
use Rattle.sheet.specs.Graph.{Graph, InRow, parcels, entries, other, mirror, row_start}
use Rattle.sheet.specs.Check.{Sound, Alike}
use Rattle.sheet.proofs.Facts.{sized_facts}
use Rattle.sheet.proofs.Rows.{one_row}
use Rattle.pairing.proofs.Entries.{other_below}
use Rattle.protocol.specs.World.{World, fits, free}
use Rattle.protocol.specs.Marks.{open', bidden, bid, drop, places}
use Rattle.protocol.specs.Steps.{Chooses, alone, waits, pairs, Receives, hears, agrees, loses, turns}
use Rattle.protocol.specs.Turns.{Changes, Started, Start, Fetched, Fetch, counted}
use Rattle.protocol.specs.Runs.{Ran, other_sizes, still, spent, refused_start, refused_fetch, then_start, then_fetch}
use Rattle.protocol.specs.History.{Opened, Call, start, fetch, run, refused_close, After, opened, then}
use Rattle.protocol.specs.Law.{started}
use Rattle.protocol.specs.declared.Ending.{Ending}
use Rattle.protocol.proofs.Core.{Core, Inv, inv_same}
use Rattle.protocol.proofs.Marks.{in_places}
use Rattle.protocol.proofs.Long.{chooses_long, receives_long}
use Rattle.protocol.proofs.Step.{core, chooses_inv, receives_bid, receives_drop}
use Rattle.protocol.proofs.Sums.{sum_but, count_same, count_in}
use Rattle.protocol.proofs.Used.{used, used_cases, row_used, used_count, used_few, chooses_used, chooses_elsewhere, bid_used, drop_used, bid_elsewhere, drop_elsewhere, awaited_facts}

-- the states and chosen places after one record was written
state_set : (rs : List Record) (u : ℕ) (r : Record) (x : ℕ) → u < length rs → state (set rs u r) x ≡ upd (state rs) u r.state x
state_set rs u r x within =
    ⊎_elim (λ e. ap (state (set rs u r)) e ∙ ap (λ (y : Record). y.state) (get_or-set_same rs u r _ within) ∙ sym (upd_same (state rs) u r.state x e))
    (λ n. ap (λ (y : Record). y.state) (get_or-set_other rs u x r _ n) ∙ sym (upd_other (state rs) u r.state x n)) (cases_eq x u)

place_set : {K : Type 0} (t : Graph K) (rs : List Record) (u : ℕ) (r : Record) (x : ℕ) → u < length rs → chosen_place t (set rs u r) x ≡ upd (chosen_place t rs) u (row_start t u + r.choice) x
place_set t rs u r x within =
    ⊎_elim (λ e. ap (chosen_place t (set rs u r)) e ∙ ap (λ (y : Record). row_start t u + y.choice) (get_or-set_same rs u r _ within) ∙ sym (upd_same (chosen_place t rs) u (row_start t u + r.choice) x e))
    (λ n. ap (λ (y : Record). row_start t x + y.choice) (get_or-set_other rs u x r _ n) ∙ sym (upd_other (chosen_place t rs) u (row_start t u + r.choice) x n)) (cases_eq x u)

-- what fitting says
pub record FitsFacts {K : Type 0} (t : Graph K) (w : World) : Type 0 where
  pub records_long : length w.records ≡ parcels t
  pub marks_long : length w.marks ≡ entries t
  pub parcel_count : w.parcel_count ≡ parcels t
  pub entry_count : w.entry_count ≡ entries t
  pub store_count : w.store_count ≡ t.limit

pub fits_facts : {K : Type 0} (t : Graph K) (w : World) → fits t w ≡ true → FitsFacts t w
fits_facts t w h = record { records_long = grind (arith, nat_tests); marks_long = grind (arith, nat_tests); parcel_count = grind (arith, nat_tests); entry_count = grind (arith, nat_tests); store_count = grind (arith, nat_tests) }

pub facts_fit : {K : Type 0} (t : Graph K) (w : World) → FitsFacts t w → fits t w ≡ true
facts_fit t w f = grind (arith, nat_tests)

-- a parcel has started
abbrev begun : ℕ → Bool
begun s = leb 1 s && leb s 3

module _ {K : Type 0} (atleast : K → K → Bool) (laws : Lawful atleast) (t : Graph K) (sound : Sound t) (alike : Alike atleast t) where
  abbrev pub core_of : World → Core
  core_of w = core (state w.records) (chosen_place t w.records) w.marks w.waiting

  pub record Holds (w : World) : Type 0 where
    pub fitting : fits t w ≡ true
    pub claims : Inv atleast t (core_of w)
    pub room : entries t ≤ w.capacity
    pub balance : w.turns + length w.waiting ≡ started t w + w.sent
    pub behind : length w.waiting ≤ w.sent
    pub used : w.sent ≤ used_count t w.records w.marks

  started_few : (w : World) → started t w ≤ parcels t
  started_few w = omega (arith, count_by-le-length (λ u. begun (state w.records u)) (range_with_len 0 (parcels t)), length-range_with_len 0 (parcels t))

  -- the part that is common to both turns: parcel u has record r, marks m, and sent out
  module _ (w w' : World) (holds : Holds w) (u : ℕ) (parcel : u < parcels t) (r : Record) (m : List ℕ) (rest out : List Note) (ch : Changes w u r m rest out w') (long : length m ≡ length w.marks) where
    facts : FitsFacts t w
    facts = fits_facts t w holds.fitting

    within : u < length w.records
    within = omega (arith, facts.records_long)

    states : (x : ℕ) → state w'.records x ≡ upd (state w.records) u r.state x
    states x = ap (λ rs. state rs x) ch.records ∙ state_set w.records u r x within

    chosens : (x : ℕ) → chosen_place t w'.records x ≡ upd (chosen_place t w.records) u (row_start t u + r.choice) x
    chosens x = ap (λ rs. chosen_place t rs x) ch.records ∙ place_set t w.records u r x within

    state_here : state w'.records u ≡ r.state
    state_here = states u ∙ upd_same (state w.records) u r.state u refl

    place_here : chosen_place t w'.records u ≡ row_start t u + r.choice
    place_here = chosens u ∙ upd_same (chosen_place t w.records) u (row_start t u + r.choice) u refl

    state_far : (x : ℕ) → (x ≡ u → ⊥) → state w'.records x ≡ state w.records x
    state_far x n = states x ∙ upd_other (state w.records) u r.state x n

    place_far : (x : ℕ) → (x ≡ u → ⊥) → chosen_place t w'.records x ≡ chosen_place t w.records x
    place_far x n = chosens x ∙ upd_other (chosen_place t w.records) u (row_start t u + r.choice) x n

    fit_now : fits t w' ≡ true
    fit_now = facts_fit t w' (record {
      records_long = ap length ch.records ∙ length-set w.records u r ∙ facts.records_long;
      marks_long = ap length ch.marks ∙ long ∙ facts.marks_long;
      parcel_count = ch.parcel_count ∙ facts.parcel_count;
      entry_count = ch.entry_count ∙ facts.entry_count;
      store_count = ch.store_count ∙ facts.store_count;
    })

    claims_now : Inv atleast t (core (upd (state w.records) u r.state) (upd (chosen_place t w.records) u (row_start t u + r.choice)) m (out ++ rest)) → Inv atleast t (core_of w')
    claims_now inv =
        inv_same atleast t (core (upd (state w.records) u r.state) (upd (chosen_place t w.records) u (row_start t u + r.choice)) m (out ++ rest)) (core_of w')
        (record {
          st = states;
          at = λ x _. chosens x;
          opn = λ p. ap (λ l. open' l p) ch.marks;
          bd = λ p. ap (λ l. bidden l p) ch.marks;
          less = λ x i. in_unshuffled (out ++ rest) w'.waiting x ch.waiting i;
          more = λ x i. in_shuffled (out ++ rest) w'.waiting x ch.waiting i;
        }) inv

    waits_now : length w'.waiting ≡ length out + length rest
    waits_now = length_permutation (out ++ rest) w'.waiting ch.waiting ∙ length-append out rest

    -- of the used entries, only those of row u have changed
    used_now : ((x : ℕ) → (InRow t u x → ⊥) → open' m x ≡ open' w.marks x) → row_used t w.records w.marks u + length out ≤ count_by (used r.state (row_start t u + r.choice) m) (places t u) → used_count t w.records w.marks + length out ≤ used_count t w'.records w'.marks
    used_now elsewhere more =
        let f = row_used t w.records w.marks in
        let g = row_used t w'.records w'.marks in
        let far : (x : ℕ) → 0 ≤ x → x < 0 + parcels t → (x ≡ u → ⊥) → f x ≡ g x =
        λ x _ less n. count_same (used (state w.records x) (chosen_place t w.records x) w.marks) (used (state w'.records x) (chosen_place t w'.records x) w'.marks) (places t x)
        (λ q i.
        let there = in_places t x (omega arith) q i in
        let marks : open' w.marks q ≡ open' w'.marks q = sym (ap (λ l. open' l q) ch.marks ∙ elsewhere q (λ e. n (one_row t sound.parcel x u q there e))) in
        ap (λ b. not b || ((eqb (state w.records x) 1 || eqb (state w.records x) 2) && eqb (chosen_place t w.records x) q)) marks
        ∙ ap (λ s. not (open' w'.marks q) || ((eqb s 1 || eqb s 2) && eqb (chosen_place t w.records x) q)) (sym (state_far x n))
        ∙ ap (λ c. not (open' w'.marks q) || ((eqb (state w'.records x) 1 || eqb (state w'.records x) 2) && eqb c q)) (sym (place_far x n))) in
        let sums = sum_but f g u (parcels t) 0 (omega arith) (omega arith) far in
        let here : g u ≡ count_by (used r.state (row_start t u + r.choice) m) (places t u) =
        ap (λ s. count_by (used s (chosen_place t w'.records u) w'.marks) (places t u)) state_here
        ∙ ap (λ c. count_by (used r.state c w'.marks) (places t u)) place_here
        ∙ ap (λ l. count_by (used r.state (row_start t u + r.choice) l) (places t u)) ch.marks in
        omega (arith, sums, here, more)

    -- of the started parcels, only u has changed
    started_now : (k : ℕ) → cond {A = ℕ} (begun (state w.records u)) 1 0 + k ≡ cond {A = ℕ} (begun r.state) 1 0 → started t w' ≡ started t w + k
    started_now k more =
        let f : ℕ → ℕ = λ x. cond (begun (state w.records x)) 1 0 in
        let g : ℕ → ℕ = λ x. cond (begun (state w'.records x)) 1 0 in
        let sums = sum_but f g u (parcels t) 0 (omega arith) (omega arith) (λ x _ _ n. ap (λ s. cond {A = ℕ} (begun s) 1 0) (sym (state_far x n))) in
        let here : g u ≡ cond (begun r.state) 1 0 = ap (λ s. cond {A = ℕ} (begun s) 1 0) state_here in
        omega (arith, sums, here, more)

    -- all together: the turn started k parcels and took j notes, where k + j is 1
    holds_now : (k j : ℕ) → k + j ≡ 1 → length w.waiting ≡ j + length rest → Inv atleast t (core (upd (state w.records) u r.state) (upd (chosen_place t w.records) u (row_start t u + r.choice)) m (out ++ rest)) → ((x : ℕ) → (InRow t u x → ⊥) → open' m x ≡ open' w.marks x) → row_used t w.records w.marks u + length out ≤ count_by (used r.state (row_start t u + r.choice) m) (places t u) → cond {A = ℕ} (begun (state w.records u)) 1 0 + k ≡ cond {A = ℕ} (begun r.state) 1 0 → Holds w'
    holds_now k j one took inv elsewhere more begins =
        let sizes = sized_facts t sound.sized_right in
        let more-used = used_now elsewhere more in
        let few = used_few t sound w'.records w'.marks in
        let begun-now = started_now k begins in
        let begun-few = started_few w in
        let sent : w'.sent ≡ w.sent + length out = ch.sent ∙ (let h : min (w.sent + length out) 4294967295 ≡ w.sent + length out = omega (arith, holds.used, more-used, few, sizes.entries_few) in h) in
        let turned : w'.turns ≡ w.turns + 1 = ch.turns ∙ (let h : min (w.turns + 1) 4294967295 ≡ w.turns + 1 = omega (arith, holds.balance, begun-few, holds.used, more-used, few, sizes.entries_few, sizes.parcels_few) in h) in
        record {
          fitting = fit_now;
          claims = claims_now inv;
          room = omega (arith, ch.capacity, holds.room);
          balance = omega (arith, holds.balance, turned, sent, waits_now, begun-now, took, one);
          behind = omega (arith, holds.behind, sent, waits_now, took);
          used = omega (arith, holds.used, more-used, sent);
        }

  -- so a turn finds room for what it sends
  pub send_room : (w : World) → Holds w → (u : ℕ) → u < parcels t → (r : Record) (m : List ℕ) (out : List Note) → length m ≡ length w.marks → ((x : ℕ) → (InRow t u x → ⊥) → open' m x ≡ open' w.marks x) → row_used t w.records w.marks u + length out ≤ count_by (used r.state (row_start t u + r.choice) m) (places t u) → length out ≤ free w
  send_room w holds u parcel r m out long elsewhere more =
      let w' : World = record {
        parcel_count = w.parcel_count;
        entry_count = w.entry_count;
        store_count = w.store_count;
        turns = counted w.turns 1;
        sent = counted w.sent (length out);
        records = set w.records u r;
        marks = m;
        waiting = out ++ w.waiting;
        capacity = w.capacity;
        next = w.next;
      } in
      let ch : Changes w u r m w.waiting out w' = record {
        records = refl;
        marks = refl;
        waiting = IsPermutation-refl (out ++ w.waiting);
        turns = refl;
        sent = refl;
        capacity = refl;
        parcel_count = refl;
        entry_count = refl;
        store_count = refl;
      } in
      omega (arith, used_now w w' holds u parcel r m w.waiting out ch long elsewhere more, used_few t sound w'.records w'.marks, holds.behind, holds.used, holds.room)

  -- an idle parcel uses only what is struck
  pub idle_used : (w : World) (u : ℕ) → state w.records u ≡ 0 → row_used t w.records w.marks u ≤ count_by (λ x. not (open' w.marks x)) (places t u)
  idle_used w u idle =
      count_in (used (state w.records u) (chosen_place t w.records u) w.marks) (λ x. not (open' w.marks x)) (places t u)
      (λ x _ h. ⊎_elim (λ z. ap not z) (λ k. absurd (both_ways (eqb (state w.records u) 1 || eqb (state w.records u) 2) (ap (λ y. eqb y 1 || eqb y 2) idle) k.0)) (used_cases (state w.records u) (chosen_place t w.records u) w.marks x h))

  -- choosing ends in a state that has started
  chooses_begun : {u : ℕ} {m : List ℕ} {r : Record} {m' : List ℕ} {out : List Note} → Chooses atleast t u m r m' out → begun r.state ≡ true
  chooses_begun (alone _) = refl
  chooses_begun (waits _ _) = refl
  chooses_begun (pairs _ _ _) = refl

  -- a parcel that receives a note has started exactly if it had
  receives_begun : {n : Note} {r r' : Record} {m m' : List ℕ} {out : List Note} → Receives atleast t n r m r' m' out → begun r.state ≡ begun r'.state
  receives_begun (hears _ _) = refl
  receives_begun {n} {r} (agrees _ aw _) = ap begun (awaited_facts t n r aw).0
  receives_begun (loses _ _) = refl
  receives_begun {n} {r} (turns _ aw ch) = ap begun (awaited_facts t n r aw).0 ∙ sym (chooses_begun ch)

  pub start_holds : {u : ℕ} {w w' : World} → Holds w → Started atleast t u w w' → Holds w'
  start_holds {u} {w} {w'} holds s =
      let a = s.accepted in
      let begins : cond {A = ℕ} (begun (state w.records u)) 1 0 + 1 ≡ cond {A = ℕ} (begun a.record'.state) 1 0 =
      (let p : cond {A = ℕ} (begun (state w.records u)) 1 0 ≡ 0 = ap (λ y. cond {A = ℕ} (begun y) 1 0) a.idle in
      let q : cond {A = ℕ} (begun a.record'.state) 1 0 ≡ 1 = ap (λ b. cond {A = ℕ} b 1 0) (chooses_begun a.chooses) in
      omega (arith, p, q)) in
      holds_now w w' holds u a.parcel a.record' a.marks' w.waiting a.out s.changes (chooses_long a.chooses) 1 0 (omega arith) (omega arith)
      (chooses_inv atleast laws t sound alike (state w.records) (chosen_place t w.records) w.marks w.waiting holds.claims u a.parcel a.idle a.chooses)
      (chooses_elsewhere t atleast u a.parcel w.marks a.chooses)
      (omega (arith, idle_used w u a.idle, chooses_used t atleast u a.parcel w.marks a.chooses))
      begins

  pub fetch_holds : {s : ℕ} {w w' : World} → Holds w → Fetched atleast t s w w' → Holds w'
  fetch_holds {s} {w} {w'} holds f =
      let a = f.accepted in
      let n = a.note in
      let rs = w.records in
      let m = w.marks in
      let facts' = fits_facts t w holds.fitting in
      let first : Inv atleast t (core (state rs) (chosen_place t rs) m (n ∷ f.rest)) =
      inv_same atleast t (core_of w) (core (state rs) (chosen_place t rs) m (n ∷ f.rest))
      (record { st = λ x. refl; at = λ x _. refl; opn = λ p. refl; bd = λ p. refl; less = λ x i. in_shuffled (n ∷ f.rest) w.waiting x f.taken i; more = λ x i. in_unshuffled (n ∷ f.rest) w.waiting x f.taken i })
      holds.claims in
      let along = first.along n (inl refl) in
      let from = along.from in
      let p = along.place in
      let row = along.within in
      let took : length w.waiting ≡ 1 + length f.rest = omega (arith, length_permutation (n ∷ f.rest) w.waiting f.taken) in
      let begins : cond {A = ℕ} (begun (state rs n.addressee)) 1 0 + 0 ≡ cond {A = ℕ} (begun a.record'.state) 1 0 =
      (let e : cond {A = ℕ} (begun (state rs n.addressee)) 1 0 ≡ cond {A = ℕ} (begun a.record'.state) 1 0 = ap (λ b. cond {A = ℕ} b 1 0) (receives_begun a.receives) in omega (arith, e)) in
      let Goal : Note → Type 0 = λ x. Changes w x.addressee a.record' a.marks' f.rest a.out w' → Inv atleast t (core (state rs) (chosen_place t rs) m (x ∷ f.rest)) → Receives atleast t x (record_of rs x.addressee) m a.record' a.marks' a.out → cond {A = ℕ} (begun (state rs x.addressee)) 1 0 + 0 ≡ cond {A = ℕ} (begun a.record'.state) 1 0 → Holds w' in
      let by-bid : Goal (bid t from p) = λ ch inv rec beg.
      holds_now w w' holds (other t p) (other_below t sound from p row) a.record' a.marks' f.rest a.out ch (receives_long rec) 0 1 (omega arith) took
      (receives_bid atleast laws t sound alike (state rs) (chosen_place t rs) m facts'.marks_long from p row f.rest (record_of rs (other t p)) refl refl inv rec)
      (bid_elsewhere atleast laws t sound alike from p row m facts'.marks_long (record_of rs (other t p)) rec)
      (bid_used atleast laws t sound alike from p row m facts'.marks_long (record_of rs (other t p)) rec) beg in
      let by-drop : Goal (drop t from p) = λ ch inv rec beg.
      holds_now w w' holds (other t p) (other_below t sound from p row) a.record' a.marks' f.rest a.out ch (receives_long rec) 0 1 (omega arith) took
      (receives_drop atleast laws t sound alike (state rs) (chosen_place t rs) m facts'.marks_long from p row f.rest (record_of rs (other t p)) refl refl inv rec)
      (drop_elsewhere atleast laws t sound alike from p row m facts'.marks_long (record_of rs (other t p)) rec)
      (drop_used atleast laws t sound alike from p row m facts'.marks_long (record_of rs (other t p)) rec) beg in
      ⊎_elim (λ (e : n ≡ bid t from p). subst Goal (sym e) by-bid f.changes first a.receives begins) (λ (e : n ≡ drop t from p). subst Goal (sym e) by-drop f.changes first a.receives begins) along.is

  pub opened_holds : {w : World} → Opened t w → Holds w
  opened_holds {w} o =
      let idle : (u : ℕ) → state w.records u ≡ 0 = λ u. ap (λ (r : Record). r.state) (o.idle u) in
      let opn : (p : ℕ) → open' w.marks p ≡ true = λ p. ap (λ b. eqb (bit_and b 1) 0) (o.clear p) in
      let unbid : (p : ℕ) → bidden w.marks p ≡ false = λ p. ap (λ b. not (eqb (bit_and b 2) 0)) (o.clear p) in
      let none : (x : Note) → x ∈ w.waiting → ⊥ = λ x i. subst (λ l. x ∈ l) o.empty i in
      let open-struck : (p : ℕ) → open' w.marks p ≡ false → ⊥ = λ p z. both_ways (open' w.marks p) z (opn p) in
      let not-one : (u : ℕ) → state w.records u ≡ 1 → ⊥ = λ u e. omega (arith, e, idle u) in
      let not-two : (u : ℕ) → state w.records u ≡ 2 → ⊥ = λ u e. omega (arith, e, idle u) in
      let not_three : (u : ℕ) → state w.records u ≡ 3 → ⊥ = λ u e. omega (arith, e, idle u) in
      let empty : length w.waiting ≡ 0 = ap length o.empty in
      let no_start : started t w ≡ 0 = started_none (λ u. cond (begun (state w.records u)) 1 0) (parcels t) 0 (λ u. ap (λ s. cond {A = ℕ} (begun s) 1 0) (idle u)) in
      record {
        fitting = facts_fit t w (record { records_long = o.records_long; marks_long = o.marks_long; parcel_count = o.parcel_count; entry_count = o.entry_count; store_count = o.store_count });
        claims = record {
          small = λ u _. omega (arith, idle u);
          in_row = λ u _. ⊎_elim (λ e. absurd (not-one u e)) (λ e. absurd (not-two u e));
          along = λ x i. absurd (none x i);
          struck_out = λ u p _ z. absurd (open-struck p z);
          drop_struck = λ u p _ i. absurd (none _ i);
          bid_first = λ u p _. ⊎_elim (λ i. absurd (none _ i)) (λ e. absurd (both_ways (bidden w.marks (mirror t u p)) (unbid (mirror t u p)) e));
          wait_first = λ u _ z. absurd (not-one u z);
          pair_first = λ u _ z. absurd (not-two u z);
          lone_struck = λ u _ z. absurd (not_three u z);
          lone_choice = λ u _ z. absurd (not_three u z);
          struck_both = λ u p _ z. absurd (open-struck p z);
          bid_sent = λ u _. ⊎_elim (λ e. absurd (not-one u e)) (λ e. absurd (not-two u e));
          wait_open = λ u _ z. absurd (not-one u z);
          wait_unbid = λ u _ z. absurd (not-one u z);
          pair_struck = λ u _ z. absurd (not-two u z);
        };
        room = o.room;
        balance = omega (arith, o.turns, o.sent, empty, no_start);
        behind = omega (arith, empty, o.sent);
        used = omega (arith, o.sent);
      }
    where
      started_none : (f : ℕ → ℕ) (n a : ℕ) → ((u : ℕ) → f u ≡ 0) → sum_by f (range_with_len a n) ≡ 0
      started_none f zero a none = refl
      started_none f (suc n) a none = omega (arith, sum_by-cons f a (range_with_len (a + 1) n), none a, started_none f n (a + 1) none)

  pub ran_holds : {b k : ℕ} {e : Ending} {w w' : World} → Holds w → Ran atleast t b w k e w' → Holds w'
  ran_holds holds (other_sizes _) = holds
  ran_holds holds (still _ _) = holds
  ran_holds holds (spent _ _) = holds
  ran_holds holds (refused_start _ _ _) = holds
  ran_holds holds (refused_fetch _ _ _) = holds
  ran_holds holds (then_start _ s more) = ran_holds (start_holds holds s) more
  ran_holds holds (then_fetch _ f more) = ran_holds (fetch_holds holds f) more

  start_did : (u : ℕ) (w w' : World) (r : Result (Unit {0}) (Refusal × ℕ)) → Holds w → Start atleast t u r w w' → Holds w'
  start_did u w w' (Ok _) holds s = start_holds holds s
  start_did u w w' (Err f) holds s = subst Holds (sym s.2) holds

  fetch_did : (s : ℕ) (w w' : World) (r : Result (Unit {0}) (Refusal × ℕ)) → Holds w → Fetch atleast t s r w w' → Holds w'
  fetch_did s w w' (Ok _) holds f = fetch_holds holds f
  fetch_did s' w w' (Err f) holds s = subst Holds (sym s.2) holds

  pub after_holds : {calls : List Call} {w : World} → After atleast t calls w → Holds w
  after_holds (opened o) = opened_holds o
  after_holds (then {calls} {w} {w'} (start u) before did) = start_did u w w' did.0 (after_holds before) did.1
  after_holds (then {calls} {w} {w'} (fetch s) before did) = fetch_did s w w' did.0 (after_holds before) did.1
  after_holds (then (run b) before did) = ran_holds (after_holds before) did.2
  after_holds (then refused_close before did) = subst Holds (sym did) (after_holds before)
