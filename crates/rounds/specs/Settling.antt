-- Settling a round: open, run until still, close. Assumes nothing.
use Rattle.std.specs.Prelude.{◌≡◌, ℕ, ◌≤◌, Bool, ◌⊎◌, List, [], length, Ok, Err, Result}
use Rattle.faults.specs.declared.Refusal.{Refusal}
use Rattle.faults.specs.Numbers.{number}
use Rattle.line.specs.declared.Note.{Note}
use Rattle.records.specs.declared.record.Record.{Record}
use Rattle.records.specs.declared.ledger.Totals.{Totals}
use Rattle.records.specs.Records.{Entire}
use Rattle.sheet.specs.Graph.{Graph, parcels, entries}
use Rattle.pairing.specs.Above.{greedy_pairing}
use Rattle.protocol.specs.World.{World}
use Rattle.protocol.specs.Runs.{Ran}
use Rattle.protocol.specs.History.{Opened}
use Rattle.protocol.specs.Law.{Law}
use Rattle.round.specs.Closing.{Closed, CloseRefused}
use Rattle.round.specs.declared.state.Round.{Round}
use Rattle.protocol.specs.declared.Ending.{Ending}

-- a round was opened and run, and came to the world w
pub record CameTo {K : Type 0} (atleast : K → K → Bool) (t : Graph K) (w : World) : Type 0 where
  pub first : World
  pub opened : Opened t first
  pub made : ℕ
  pub ending : Ending
  pub ran : Ran atleast t 4294967295 first made ending w

-- tables of the right lengths, and an empty line with room for the entries
pub record Ready {K : Type 0} (t : Graph K) (rs : List Record) (m : List ℕ) (waiting : List Note) (capacity : ℕ) : Type 0 where
  pub records_long : length rs ≡ parcels t
  pub marks_long : length m ≡ entries t
  pub empty : waiting ≡ []
  pub room : entries t ≤ capacity

-- a settled round: closed with these totals, under the law, with the greedy pairing recorded entire
pub record Settles {K : Type 0} (atleast : K → K → Bool) (t : Graph K) (w : World) (x : Totals) : Type 0 where
  pub closed : Closed t w x
  pub law : Law atleast t w
  pub whole : Entire t w.records (greedy_pairing atleast t)

-- a round was opened and run, and these are its records, marks and line
pub record Ended {K : Type 0} (atleast : K → K → Bool) (t : Graph K) (see : Round → World) : Type 0 where
  pub round : Round
  pub came : CameTo atleast t (see round)

-- what settling answers: what close does of a round that was opened and run, or what open does
abbrev pub Settling : {K : Type 0} → (K → K → Bool) → Graph K → (Round → World) → (ℕ → ℕ → Type 0) → Result Totals (Refusal × ℕ) → Type 0
Settling atleast t see unopened (Ok x) = (e : Ended atleast t see) × Closed t (see e.round) x
Settling atleast t see unopened (Err f) = unopened (number f.0) f.1 ⊎ ((e : Ended atleast t see) × CloseRefused t (see e.round) (number f.0) f.1)

-- only open refuses; else the round ends settled
abbrev pub SettlesOrUnopened : {K : Type 0} → (K → K → Bool) → Graph K → (Round → World) → (ℕ → ℕ → Type 0) → Result Totals (Refusal × ℕ) → Type 0
SettlesOrUnopened atleast t see unopened (Ok x) = (r : Round) × Settles atleast t (see r) x
SettlesOrUnopened atleast t see unopened (Err f) = unopened (number f.0) f.1

-- the answer is no refusal
abbrev pub DoesNotRefuse : Result Totals (Refusal × ℕ) → Type 0
DoesNotRefuse (Ok _) = Unit {0}
DoesNotRefuse (Err _) = ⊥
