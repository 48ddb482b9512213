-- Turns one after the other, as a run makes them. Assumes nothing.
use Rattle.std.proofs.Common.{◌≡◌, ℕ, suc, ◌+◌, ◌-◌, ◌<◌, ◌≤◌, Bool, true, List, length, is_some, Some, None, Ok, Err, set, ◌≢◌, sym, ap, ◌∙◌, subst, ⊎_elim, arith}
use Rattle.std.proofs.lemmas.Bool.{true≢false, cases_eq, cases_lt}
use Rattle.rounds.specs.Next.{Idle, Store, NextTurn, Turned}
use Rattle.rounds.specs.declared.Turn.{Turn}
use Rattle.rounds.specs.declared.Turn.TheVariants.{StartOf, FetchFor}
use Rattle.std.proofs.lemmas.List.{length-set, get_or-set_same, get_or-set_other, get_or_past}
use Rattle.faults.specs.declared.Refusal.{Refusal}
use Rattle.faults.specs.Numbers.{number}
use Rattle.line.specs.declared.Note.{Note}
use Rattle.records.specs.declared.record.Record.{Record}
use Rattle.records.specs.Records.{state}
use Rattle.sheet.specs.Graph.{Graph, parcels}
use Rattle.protocol.specs.World.{World, fits}
use Rattle.protocol.specs.Steps.{Chooses, alone, waits, pairs, Receives, hears, agrees, loses, turns}
use Rattle.protocol.specs.Turns.{Changes, Started, Fetched}
use Rattle.protocol.specs.Runs.{NoIdleBelow, LowestIdle, LowestStore, Quiet, Ran, still, spent, refused_start, refused_fetch, then_start, then_fetch}
use Rattle.protocol.specs.declared.Ending.{Ending}
use Rattle.protocol.specs.declared.Ending.TheVariants.{Still, Spent, Refused}
use Rattle.protocol.proofs.Holds.{fits_facts, facts_fit}
use Rattle.protocol.proofs.Long.{chooses_long, receives_long}

-- where a record that is not idle is written, a parcel that is not idle stays so
kept_busy : (rs : List Record) (u : ℕ) (r : Record) (v : ℕ) → state rs v ≢ 0 → (v ≡ u → r.state ≢ 0) → state (set rs u r) v ≢ 0
kept_busy rs u r v busy written =
    ⊎_elim
    (λ e. ⊎_elim
    (λ less. subst (λ k. state (set rs u r) k ≢ 0) (sym e) (λ idle. written e (ap (λ (x : Record). x.state) (sym (get_or-set_same rs u r _ (subst (λ k. k < length rs) e less))) ∙ idle)))
    (λ past. absurd (busy (ap (λ (x : Record). x.state) (get_or_past rs v _ past))))
    (cases_lt v (length rs)))
    (λ n idle. busy (ap (λ (x : Record). x.state) (sym (get_or-set_other rs u v r _ n)) ∙ idle))
    (cases_eq v u)

-- below which of so many parcels none is idle, once this turn is made
abbrev pub busy_below : ℕ → Turn → ℕ
busy_below many (StartOf u) = u
busy_below many (FetchFor s) = many

module _ {K : Type 0} (atleast : K → K → Bool) (t : Graph K) where
  -- who chooses is not idle then
  chooses_busy : {u : ℕ} {m : List ℕ} {r : Record} {m' : List ℕ} {out : List Note} → Chooses atleast t u m r m' out → r.state ≢ 0
  chooses_busy (alone _) e = omega (arith, e)
  chooses_busy (waits _ _) e = omega (arith, e)
  chooses_busy (pairs _ _ _) e = omega (arith, e)

  -- who receives a note and is not idle does not become so
  receives_busy : {n : Note} {r r' : Record} {m m' : List ℕ} {out : List Note} → Receives atleast t n r m r' m' out → r.state ≢ 0 → r'.state ≢ 0
  receives_busy (hears _ _) busy = busy
  receives_busy (agrees _ _ _) busy = λ e. omega (arith, e)
  receives_busy (loses _ _) busy = busy
  receives_busy (turns _ _ ch) busy = chooses_busy ch

  -- no turn makes a parcel idle
  started_busy : {u : ℕ} {w w' : World} (k : ℕ) → Started atleast t u w w' → NoIdleBelow w.records k → NoIdleBelow w'.records k
  started_busy {u} {w} k did busy = λ v less.
      subst (λ rs. state rs v ≢ 0) (sym did.changes.records)
      (kept_busy w.records u did.accepted.record' v (busy v less) (λ _. chooses_busy did.accepted.chooses))

  fetched_busy : {s : ℕ} {w w' : World} (k : ℕ) → Fetched atleast t s w w' → NoIdleBelow w.records k → NoIdleBelow w'.records k
  fetched_busy {s} {w} k did busy = λ v less.
      subst (λ rs. state rs v ≢ 0) (sym did.changes.records)
      (kept_busy w.records did.accepted.note.addressee did.accepted.record' v (busy v less)
      (λ e. receives_busy did.accepted.receives (subst (λ x. state w.records x ≢ 0) e (busy v less))))

  changes_fit : {w w' : World} {u : ℕ} {r : Record} {m : List ℕ} {rest out : List Note} → fits t w ≡ true → Changes w u r m rest out w' → length m ≡ length w.marks → fits t w' ≡ true
  changes_fit {w} {w'} {u} {r} fit ch long =
      let f = fits_facts t w fit in
      facts_fit t w' (record {
        records_long = ap length ch.records ∙ length-set w.records u r ∙ f.records_long;
        marks_long = ap length ch.marks ∙ long ∙ f.marks_long;
        parcel_count = ch.parcel_count ∙ f.parcel_count;
        entry_count = ch.entry_count ∙ f.entry_count;
        store_count = ch.store_count ∙ f.store_count;
      })

  pub started_fits : {u : ℕ} {w w' : World} → Started atleast t u w w' → fits t w' ≡ true
  started_fits s = changes_fit s.accepted.fitting s.changes (chooses_long s.accepted.chooses)

  pub fetched_fits : {s : ℕ} {w w' : World} → Fetched atleast t s w w' → fits t w' ≡ true
  fetched_fits f = changes_fit f.accepted.fitting f.changes (receives_long f.accepted.receives)

  -- so many turns lead from one world to another
  pub data Went : World → ℕ → World → Type 0 where
    here : {w : World} → Went w 0 w
    and_start : {w v v' : World} {k u : ℕ} → Went w k v → LowestIdle t v u → Started atleast t u v v' → Went w (k + 1) v'
    and_fetch : {w v v' : World} {k s : ℕ} → Went w k v → LowestStore t v s → Fetched atleast t s v v' → Went w (k + 1) v'

  -- and then a run
  pub went_ran : {w v w' : World} {k b n : ℕ} {e : Ending} → Went w k v → Ran atleast t b v n e w' → Ran atleast t (k + b) w (k + n) e w'
  went_ran {w} {v} {w'} {k} {b} {n} {e} here ran =
      let p : 0 + b ≡ b = omega arith in
      let q : 0 + n ≡ n = omega arith in
      subst (λ x. Ran atleast t x w (0 + n) e w') (sym p) (subst (λ y. Ran atleast t b w y e w') (sym q) ran)
  went_ran {w} {v} {w'} {b = b} {n = n} {e = e} (and_start {k = k} before idle s) ran =
      let p : k + suc b ≡ k + 1 + b = omega arith in
      let q : k + suc n ≡ k + 1 + n = omega arith in
      subst (λ x. Ran atleast t x w (k + 1 + n) e w') p (subst (λ y. Ran atleast t (k + suc b) w y e w') q (went_ran before (then_start idle s ran)))
  went_ran {w} {v} {w'} {b = b} {n = n} {e = e} (and_fetch {k = k} before store f) ran =
      let p : k + suc b ≡ k + 1 + b = omega arith in
      let q : k + suc n ≡ k + 1 + n = omega arith in
      subst (λ x. Ran atleast t x w (k + 1 + n) e w') p (subst (λ y. Ran atleast t (k + suc b) w y e w') q (went_ran before (then_fetch store f ran)))

  -- where k turns of a budget are made, and the run ends there
  pub ends : {w v : World} {k b : ℕ} {e : Ending} (whole : ℕ) → Went w k v → k + b ≡ whole → Ran atleast t b v 0 e v → Ran atleast t whole w k e v
  ends {w} {v} {k} {b} {e} whole went sum ran =
      let q : k + 0 ≡ k = omega arith in
      subst (λ x. Ran atleast t x w k e v) sum (subst (λ y. Ran atleast t (k + b) w y e v) q (went_ran went ran))

  -- the turn that comes next by the records and the line, in a world that has those
  idle_seen : {w : World} {u : ℕ} → Idle t w.records (Some u) → LowestIdle t w u
  idle_seen i = record { parcel = i.0; idle = i.1; lowest = i.2 }

  store_seen : {w : World} {s : ℕ} → Idle t w.records None × Store t w.next (Some s) → LowestStore t w s
  store_seen n = record { store = n.1.0; none_idle = n.0; note = n.1.1; lowest = n.1.2 }

  quiet_seen : {w : World} → NextTurn t w.records w.next None → Quiet t w
  quiet_seen n = record { none_idle = n.0; none_waiting = n.1 }

  -- an accepted turn is one more
  pub turned_ok : {w0 w w' : World} {k : ℕ} (turn : Turn) (u : Unit {0}) → NextTurn t w.records w.next (Some turn) → Turned atleast t turn (Ok u) w w' → Went w0 k w
      → Went w0 (k + 1) w' × (fits t w' ≡ true) × NoIdleBelow w'.records (busy_below (parcels t) turn)
  turned_ok (StartOf p) u comes did went = (and_start went (idle_seen comes) did, started_fits did, started_busy p did comes.2)
  turned_ok (FetchFor s) u comes did went = (and_fetch went (store_seen comes) did, fetched_fits did, fetched_busy (parcels t) did comes.0)

  -- a refused turn ends the run, and alters nothing
  pub turned_err : {w w' : World} (turn : Turn) (f : Refusal × ℕ) (b : ℕ) → fits t w ≡ true → NextTurn t w.records w.next (Some turn) → Turned atleast t turn (Err f) w w' → Ran atleast t (suc b) w 0 (Refused (number f.0) f.1) w × (w' ≡ w)
  turned_err (StartOf p) f b fit comes did = (refused_start fit (idle_seen comes) did.0, did.2)
  turned_err (FetchFor s) f b fit comes did = (refused_fetch fit (store_seen comes) did.0, did.2)

  -- where a turn comes next, it is not quiet
  pub turn_not_quiet : {w : World} (turn : Turn) → NextTurn t w.records w.next (Some turn) → Quiet t w → ⊥
  turn_not_quiet (StartOf p) comes quiet = quiet.none_idle p comes.0 comes.1
  turn_not_quiet (FetchFor s) comes quiet = true≢false (sym comes.1.1 ∙ ap is_some (quiet.none_waiting s comes.1.0))

  -- the run is over after k turns: it is refused there, still there, or spent
  module _ {w v : World} (k budget : ℕ) (went : Went w k v) (fit : fits t v ≡ true) where
    pub ends_still : k ≤ budget → NextTurn t v.records v.next None → Ran atleast t budget w k Still v
    ends_still less quiet = ends {b = budget - k} budget went (omega arith) (still fit (quiet_seen quiet))

    pub ends_refused : k < budget → (turn : Turn) (f : Refusal × ℕ) {v' : World} → NextTurn t v.records v.next (Some turn) → Turned atleast t turn (Err f) v v' → Ran atleast t budget w k (Refused (number f.0) f.1) v'
    ends_refused less turn f {v'} comes did =
        let r = turned_err turn f (budget - k - 1) fit comes did in
        subst (λ x. Ran atleast t budget w k (Refused (number f.0) f.1) x) (sym r.1) (ends {b = suc (budget - k - 1)} budget went (omega arith) r.0)

    pub ends_spent : k ≡ budget → (turn : Turn) → NextTurn t v.records v.next (Some turn) → Ran atleast t budget w budget Spent v
    ends_spent e turn comes = subst (λ n. Ran atleast t budget w n Spent v) e (ends {b = 0} budget went (omega arith) (spent fit (turn_not_quiet turn comes)))

    pub ends_quiet : k ≡ budget → NextTurn t v.records v.next None → Ran atleast t budget w budget Still v
    ends_quiet e quiet = subst (λ n. Ran atleast t budget w n Still v) e (ends_still (omega arith) quiet)
