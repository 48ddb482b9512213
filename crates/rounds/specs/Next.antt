-- Which turn a run makes next. Assumes nothing.
use Rattle.std.specs.Prelude.{◌≡◌, ℕ, ◌<◌, Bool, true, List, is_some, Some, None, Option, Result}
use Rattle.faults.specs.declared.Refusal.{Refusal}
use Rattle.line.specs.declared.Note.{Note}
use Rattle.records.specs.declared.record.Record.{Record}
use Rattle.records.specs.Records.{state}
use Rattle.sheet.specs.Graph.{Graph, parcels}
use Rattle.protocol.specs.World.{World}
use Rattle.protocol.specs.Runs.{NoIdleBelow, NoNoteBelow}
use Rattle.protocol.specs.Turns.{Start, Fetch}
use Rattle.rounds.specs.declared.Turn.{Turn}
use Rattle.rounds.specs.declared.Turn.TheVariants.{StartOf, FetchFor}

-- the lowest idle parcel, if there is one
abbrev pub Idle : {K : Type 0} → Graph K → List Record → Option ℕ → Type 0
Idle t rs None = NoIdleBelow rs (parcels t)
Idle t rs (Some u) = (u < parcels t) × (state rs u ≡ 0) × NoIdleBelow rs u

-- the lowest store with a note, if there is one
abbrev pub Store : {K : Type 0} → Graph K → (ℕ → Option Note) → Option ℕ → Type 0
Store t chosen None = NoNoteBelow chosen t.limit
Store t chosen (Some s) = (s < t.limit) × (is_some (chosen s) ≡ true) × NoNoteBelow chosen s

-- the turn that comes next: a start of the lowest idle parcel, else a fetch for the lowest store with a note, else none
abbrev pub NextTurn : {K : Type 0} → Graph K → List Record → (ℕ → Option Note) → Option Turn → Type 0
NextTurn t rs chosen None = Idle t rs None × Store t chosen None
NextTurn t rs chosen (Some (StartOf u)) = Idle t rs (Some u)
NextTurn t rs chosen (Some (FetchFor s)) = Idle t rs None × Store t chosen (Some s)

-- what that turn did
abbrev pub Turned : {K : Type 0} → (K → K → Bool) → Graph K → Turn → Result (Unit {0}) (Refusal × ℕ) → World → World → Type 0
Turned atleast t (StartOf u) r w w' = Start atleast t u r w w'
Turned atleast t (FetchFor s) r w w' = Fetch atleast t s r w w'
