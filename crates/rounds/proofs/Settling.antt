-- A round that was opened and run until it ended can be closed, by the law. Assumes nothing.
use Rattle.std.proofs.Common.{◌≡◌, ℕ, suc, ◌+◌, ◌≤◌, min, Bool, true, ◌&&◌, leb, ◌⊎◌, List, [], ◌∷◌, is_some, Ok, Err, Result, MatchResult, sym, refl, ap, subst, ◌∙◌, inl, inr, ⊎_elim, arith}
use Rattle.std.specs.List.{range_with_len}
use Rattle.std.proofs.lemmas.List.FromFn.{length-range_with_len}
use Rattle.std.proofs.lemmas.List.Sums.{count_by-le-length}
use Rattle.std.proofs.lemmas.Bool.{both_ways, true≢false}
use Rattle.faults.specs.declared.Refusal.{Refusal}
use Rattle.faults.specs.Numbers.{number}
use Rattle.line.specs.declared.Note.{Note}
use Rattle.records.specs.declared.record.Record.{Record}
use Rattle.records.specs.declared.ledger.Totals.{Totals}
use Rattle.round.specs.declared.state.Round.{Round}
use Rattle.rounds.specs.Settling.{Ready, Settling, SettlesOrUnopened, DoesNotRefuse}
use Rattle.records.specs.Records.{state}
use Rattle.ranking.specs.Law.{Lawful}
use Rattle.sheet.specs.Graph.{Graph, parcels}
use Rattle.sheet.specs.Check.{Sound}
use Rattle.sheet.proofs.Facts.{sized_facts}
use Rattle.protocol.specs.World.{World, fits}
use Rattle.protocol.specs.Turns.{StartAccepted, StartRefused, FetchAccepted, FetchRefused}
use Rattle.protocol.specs.Runs.{LowestIdle, LowestStore, Quiet, Ran, other_sizes, still, spent, refused_start, refused_fetch, then_start, then_fetch}
use Rattle.protocol.specs.History.{Opened, run, After, opened, then}
use Rattle.protocol.specs.Law.{Law, Settled}
use Rattle.protocol.specs.declared.Ending.{Ending}
use Rattle.protocol.specs.declared.Ending.TheVariants.{Still, Spent, Refused}
use Rattle.protocol.proofs.Holds.{facts_fit}
use Rattle.protocol.proofs.Refusals.{start_not_accepted, fetch_not_accepted}
use Rattle.round.specs.Closing.{CloseRefused, Closable, Closed, strays, undecided, waiting}
use Rattle.round.specs.Closing as closing
use Rattle.rounds.proofs.Going.{started_fits, fetched_fits}

module _ {K : Type 0} (atleast : K → K → Bool) (laws : Lawful atleast) (t : Graph K) (sound : Sound t) where
  -- what holds where a run ends
  abbrev AtEnd : ℕ → ℕ → Ending → World → Type 0
  AtEnd b n Still w = Quiet t w
  AtEnd b n Spent w = n ≡ b
  AtEnd b n (Refused k p) w = ((u : ℕ) × LowestIdle t w u × StartRefused atleast t w u k p) ⊎ ((s : ℕ) × LowestStore t w s × FetchRefused atleast t w s k p)

  one_turn : (b n : ℕ) (e : Ending) (w : World) → AtEnd b n e w → AtEnd (suc b) (suc n) e w
  one_turn b n Still w q = q
  one_turn b n Spent w q = ap suc q
  one_turn b n (Refused k p) w q = q

  ran_end : {b n : ℕ} {e : Ending} {w w' : World} → fits t w ≡ true → Ran atleast t b w n e w' → AtEnd b n e w'
  ran_end fit (other_sizes un) = absurd (both_ways _ un fit)
  ran_end fit (still _ quiet) = quiet
  ran_end fit (spent _ _) = refl
  ran_end fit (refused_start _ idle why) = inl (_, idle, why)
  ran_end fit (refused_fetch _ store why) = inr (_, store, why)
  ran_end fit (then_start {b} {u} {n} {e} {w} {v} {w'} _ s more) = one_turn b n e w' (ran_end (started_fits atleast t s) more)
  ran_end fit (then_fetch {b} {s} {n} {e} {w} {v} {w'} _ f more) = one_turn b n e w' (ran_end (fetched_fits atleast t f) more)

  ran_fits : {b n : ℕ} {e : Ending} {w w' : World} → fits t w ≡ true → Ran atleast t b w n e w' → fits t w' ≡ true
  ran_fits fit (other_sizes un) = absurd (both_ways _ un fit)
  ran_fits fit (still _ _) = fit
  ran_fits fit (spent _ _) = fit
  ran_fits fit (refused_start _ _ _) = fit
  ran_fits fit (refused_fetch _ _ _) = fit
  ran_fits fit (then_start _ s more) = ran_fits (started_fits atleast t s) more
  ran_fits fit (then_fetch _ f more) = ran_fits (fetched_fits atleast t f) more

  -- a run counts its turns
  ran_turns : {b n : ℕ} {e : Ending} {w w' : World} → w.turns ≤ 4294967295 → Ran atleast t b w n e w' → w'.turns ≡ min (w.turns + n) 4294967295
  ran_turns few (other_sizes _) = omega (arith, few)
  ran_turns few (still _ _) = omega (arith, few)
  ran_turns few (spent _ _) = omega (arith, few)
  ran_turns few (refused_start _ _ _) = omega (arith, few)
  ran_turns few (refused_fetch _ _ _) = omega (arith, few)
  ran_turns few (then_start _ s more) = let e = s.changes.turns in omega (arith, e, ran_turns (omega (arith, e)) more)
  ran_turns few (then_fetch _ f more) = let e = f.changes.turns in omega (arith, e, ran_turns (omega (arith, e)) more)

  open_fits : {w : World} → Opened t w → fits t w ≡ true
  open_fits {w} o = facts_fit t w (record { records_long = o.records_long; marks_long = o.marks_long; parcel_count = o.parcel_count; entry_count = o.entry_count; store_count = o.store_count })

  -- nothing is left to do where it is quiet
  quiet_settled : {w : World} → Law atleast t w → Quiet t w → (Settled t w → ⊥) → ⊥
  quiet_settled {w} law quiet un =
      ⊎_elim
      (λ (s : (u : ℕ) × StartAccepted atleast t w u). quiet.none_idle s.0 s.1.parcel s.1.idle)
      (λ (f : (s : ℕ) × FetchAccepted atleast t w s). true≢false (ap is_some (sym f.1.next ∙ quiet.none_waiting f.0 f.1.store)))
      (law.goes_on un)

  module _ {w w' : World} {n : ℕ} {e : Ending} (o : Opened t w) (ran : Ran atleast t 4294967295 w n e w') (law : Law atleast t w') where
    -- so the run ended still
    ended : (e : Ending) → AtEnd 4294967295 n e w' → Quiet t w'
    ended Still quiet = quiet
    ended Spent all =
        let sizes = sized_facts t sound.sized_right in
        let few = count_by-le-length (λ u. leb 1 (state w'.records u) && leb (state w'.records u) 3) (range_with_len 0 (parcels t)) in
        let long = length-range_with_len 0 (parcels t) in
        let turned = ran_turns (omega (arith, o.turns)) ran in
        absurd (omega (arith, sizes.parcels_few, sizes.entries_few, few, long, turned, o.turns, all, law.balance, law.few))
    ended (Refused k p) why =
        absurd (⊎_elim
        (λ (s : (u : ℕ) × LowestIdle t w' u × StartRefused atleast t w' u k p). start_not_accepted atleast laws t s.2 (law.starts s.0 s.1.parcel s.1.idle))
        (λ (f : (s : ℕ) × LowestStore t w' s × FetchRefused atleast t w' s k p). fetch_not_accepted atleast laws t f.2 (law.fetches f.0 f.1.store f.1.note)) why)

    quiet_now : Quiet t w'
    quiet_now = ended e (ran_end (open_fits o) ran)

    -- and close does not refuse
    pub closes : {k p : ℕ} → CloseRefused t w' k p → ⊥
    closes (closing.other_sizes un) = both_ways _ un (ran_fits (open_fits o) ran)
    closes (strays _ first) = both_ways _ (law.in_range _ first.parcel) first.wrong
    closes (undecided {u} _ _ less before _) =
        ⊎_elim (λ idle. quiet_now.none_idle u less idle)
        (λ one. quiet_settled law quiet_now (λ settled. ⊎_elim (λ two. omega (arith, one, two)) (λ three. omega (arith, one, three)) (settled.decided u less))) before
    closes (waiting _ _ _ some) = quiet_settled law quiet_now (λ settled. some settled.empty)

  -- a history of one run
  pub one_run : {w w' : World} {n : ℕ} {e : Ending} → Opened t w → Ran atleast t 4294967295 w n e w' → After atleast t (run 4294967295 ∷ []) w'
  one_run {w} {w'} {n} {e} o ran = then (run 4294967295) (opened o) (n, e, ran)

-- with tables of the right lengths and an empty line with room, open does not refuse
pub ready_opens : {K : Type 0} (t : Graph K) {rs : List Record} {m : List ℕ} {before : List Note} {capacity k p : ℕ} → Ready t rs m before capacity → closing.OpenRefused t rs m before capacity k p → ⊥
ready_opens t ready (closing.line_unfit un) = un ready.empty ready.room
ready_opens t ready (closing.wrong_length _ _ un) = un ready.records_long ready.marks_long

-- what close answers of a round in this world
abbrev Answered : {K : Type 0} → Graph K → World → Round → Result Totals (Round × (Refusal × ℕ)) → Type 0
Answered t w round (Ok x) = Closed t w x
Answered t w round (Err f) = (f.0 ≡ round) × CloseRefused t w (number f.1.0) f.1.1 × (Closable t w → ⊥)

-- an answer without the round that a refusal hands back
abbrev Without : Result Totals (Round × (Refusal × ℕ)) → Result Totals (Refusal × ℕ) → Type 0
Without r s = MatchResult r (λ x. s ≡ Ok x) (λ e. s ≡ Err e.1)

-- what settling answers, where a round was opened and run and close answered this
module _ {K : Type 0} (atleast : K → K → Bool) (laws : Lawful atleast) (t : Graph K) (sound : Sound t) (see : Round → World) (unopened : ℕ → ℕ → Type 0) (round : Round) {first : World} {n : ℕ} {e : Ending} (o : Opened t first) (ran : Ran atleast t 4294967295 first n e (see round)) where
  pub settled_did : (r : Result Totals (Round × (Refusal × ℕ))) (s : Result Totals (Refusal × ℕ)) → Without r s → Answered t (see round) round r → Settling atleast t see unopened s
  settled_did (Ok x) s is closed = subst (Settling atleast t see unopened) (sym is) (record { round = round; came = record { first = first; opened = o; made = n; ending = e; ran = ran } }, closed)
  settled_did (Err f) s is refused = subst (Settling atleast t see unopened) (sym is) (inr (record { round = round; came = record { first = first; opened = o; made = n; ending = e; ran = ran } }, refused.1))

  module _ (law : Law atleast t (see round)) where
    pub settled_settles : (r : Result Totals (Round × (Refusal × ℕ))) (s : Result Totals (Refusal × ℕ)) → Without r s → Answered t (see round) round r → SettlesOrUnopened atleast t see unopened s
    settled_settles (Ok x) s is closed = subst (SettlesOrUnopened atleast t see unopened) (sym is) (round, record { closed = closed; law = law; whole = law.entire closed.closable.settled })
    settled_settles (Err f) s is refused = absurd (closes atleast laws t sound o ran law refused.1)

    pub settled_ready : (r : Result Totals (Round × (Refusal × ℕ))) (s : Result Totals (Refusal × ℕ)) → Without r s → Answered t (see round) round r → DoesNotRefuse s
    settled_ready (Ok x) s is closed = subst DoesNotRefuse (sym is) tt
    settled_ready (Err f) s is refused = absurd (closes atleast laws t sound o ran law refused.1)
