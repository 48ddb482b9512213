-- What the stages answer. Assumes nothing.
use Rattle.std.specs.Prelude.{◌≡◌, ℕ, ◌<◌, ◌⊎◌, List, Ok, Err, Result}
use Rattle.faults.specs.declared.Refusal.{Refusal}
use Rattle.faults.specs.Numbers.{number}
use Rattle.ranking.specs.declared.Cents.{Cents}
use Rattle.ranking.specs.Kinds.{cents_atleast}
use Rattle.reading.specs.declared.Sizes.{Sizes}
use Rattle.sheet.specs.Graph.{Graph}
use Rattle.sheet.specs.Check.{Passed, Refused}
use Rattle.pairing.specs.Above.{greedy_pairing}
use Rattle.records.specs.declared.record.Record.{Record}
use Rattle.records.specs.declared.ledger.Totals.{Totals}
use Rattle.records.specs.Records.{Entire}
use Rattle.records.specs.Totals.{no_totals}
use Rattle.outright.specs.Outright as outright
use Rattle.line.specs.declared.Note.{Note}
use Rattle.protocol.specs.World.{World}
use Rattle.round.specs.Closing.{OpenRefused, Closed}
use Rattle.rounds.specs.Settling.{CameTo}
use Rattle.stages.specs.declared.answers.Verdict.{Verdict}
use Rattle.stages.specs.declared.answers.Reading.{Reading}
use Rattle.stages.specs.declared.answers.Outcome.{Outcome}

-- an answer as numbers: 0 at 0 for no refusal, and counts of 0 for a refusal
abbrev pub verdict_of : Result (Unit {0}) (Refusal × ℕ) → Verdict
verdict_of (Ok _) = record { number = 0; place = 0 }
verdict_of (Err f) = record { number = number f.0; place = f.1 }

abbrev pub reading_of : Result Sizes (Refusal × ℕ) → Reading
reading_of (Ok z) = record { number = 0; place = 0; parcels = z.parcels; entries = z.entries; stores = z.stores }
reading_of (Err f) = record { number = number f.0; place = f.1; parcels = 0; entries = 0; stores = 0 }

abbrev pub outcome_of : Result Totals (Refusal × ℕ) → Outcome
outcome_of (Ok x) = record { number = 0; place = 0; pairs = x.tally.pairs; lone = x.tally.lone; sent = x.sent; turns = x.turns }
outcome_of (Err f) = record { number = number f.0; place = f.1; pairs = 0; lone = 0; sent = 0; turns = 0 }

-- the answer is that of a result of which this is true
abbrev pub Answers : {R V : Type 0} → (R → V) → (R → Type 0) → V → Type 0
Answers {R} shown is v = (r : R) × is r × (v ≡ shown r)

-- a sheet as lists
abbrev pub listed : List ℕ → List ℕ → List Cents → List ℕ → List ℕ → ℕ → Graph Cents
listed starts others keys stores editions limit = record { starts = starts; others = others; keys = keys; stores = stores; editions = editions; limit = limit }

-- the check refuses the sheet with this number at this place, and it does not pass
abbrev pub Unchecked : Graph Cents → Refusal × ℕ → Type 0
Unchecked t f = Refused cents_atleast t (number f.0) f.1 × (Passed cents_atleast t → ⊥)

-- what the check answers: the sheet passes, or is refused
abbrev pub Checked : Graph Cents → Result (Unit {0}) (Refusal × ℕ) → Type 0
Checked t (Ok _) = Passed cents_atleast t
Checked t (Err f) = Unchecked t f

-- outright pairing, so many times one after the other
module _ (t : Graph Cents) (repeat : ℕ) (rs : List Record) (work : List ℕ) where
  -- 0 times alter nothing; else it is done, or refused with nothing altered
  abbrev pub Paired : Result (Unit {0}) (Refusal × ℕ) → List Record → List ℕ → Type 0
  Paired (Ok _) rs' work' = ((repeat ≡ 0) × (rs' ≡ rs) × (work' ≡ work)) ⊎ ((0 < repeat) × outright.Done cents_atleast t rs work rs')
  Paired (Err f) rs' work' = (0 < repeat) × outright.Refused t rs work (number f.0) f.1 × (rs' ≡ rs) × (work' ≡ work)

  -- and before it the check
  abbrev pub CheckedPaired : Result (Unit {0}) (Refusal × ℕ) → List Record → List ℕ → Type 0
  CheckedPaired (Ok u) rs' work' = Passed cents_atleast t × Paired (Ok u) rs' work'
  CheckedPaired (Err f) rs' work' = (Unchecked t f × (rs' ≡ rs) × (work' ≡ work)) ⊎ (Passed cents_atleast t × Paired (Err f) rs' work')

-- a round that was opened, run and closed with these totals left these records and marks, and the records hold the greedy pairing entire
pub record RoundOf (t : Graph Cents) (x : Totals) (rs : List Record) (m : List ℕ) : Type 0 where
  pub world : World
  pub records : world.records ≡ rs
  pub marks : world.marks ≡ m
  pub came : CameTo cents_atleast t world
  pub closed : Closed t world x
  pub entire : Entire t rs (greedy_pairing cents_atleast t)

-- rounds over a line, so many one after the other
module _ (t : Graph Cents) (repeat : ℕ) (waiting : List Note) (capacity : ℕ) (rs : List Record) (m : List ℕ) where
  -- 0 rounds alter nothing, and their totals are 0; else the totals, records and marks are those of a round, or the opening is refused with nothing altered
  abbrev pub Settled : Result Totals (Refusal × ℕ) → List Record → List ℕ → Type 0
  Settled (Ok x) rs' m' = ((repeat ≡ 0) × (x ≡ no_totals) × (rs' ≡ rs) × (m' ≡ m)) ⊎ ((0 < repeat) × RoundOf t x rs' m')
  Settled (Err f) rs' m' = (0 < repeat) × OpenRefused t rs m waiting capacity (number f.0) f.1 × (rs' ≡ rs) × (m' ≡ m)

  -- and before them the check
  abbrev pub CheckedSettled : Result Totals (Refusal × ℕ) → List Record → List ℕ → Type 0
  CheckedSettled (Ok x) rs' m' = Passed cents_atleast t × Settled (Ok x) rs' m'
  CheckedSettled (Err f) rs' m' = (Unchecked t f × (rs' ≡ rs) × (m' ≡ m)) ⊎ (Passed cents_atleast t × Settled (Err f) rs' m')
