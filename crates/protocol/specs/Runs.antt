-- Runs: which turn comes next, and how a run ends. Assumes nothing.
use Rattle.std.specs.Prelude.{◌≡◌, ℕ, suc, ◌<◌, Bool, true, false, List, is_some, None, Option, ◌≢◌}
use Rattle.line.specs.declared.Note.{Note}
use Rattle.records.specs.declared.record.Record.{Record}
use Rattle.records.specs.Records.{state}
use Rattle.sheet.specs.Graph.{Graph, parcels}
use Rattle.protocol.specs.World.{World, fits}
use Rattle.protocol.specs.Turns.{Started, StartRefused, Fetched, FetchRefused}
use Rattle.protocol.specs.declared.Ending.{Ending}
use Rattle.protocol.specs.declared.Ending.TheVariants.{Still, Spent, Refused}

-- no parcel below u is idle by these records
abbrev pub NoIdleBelow : List Record → ℕ → Type 0
NoIdleBelow rs u = (v : ℕ) → v < u → state rs v ≢ 0

-- no store below s would be handed a note
abbrev pub NoNoteBelow : (ℕ → Option Note) → ℕ → Type 0
NoNoteBelow chosen s = (r : ℕ) → r < s → chosen r ≡ None

module _ {K : Type 0} (t : Graph K) (w : World) where
  -- no parcel below u is idle
  abbrev pub NoneIdle : ℕ → Type 0
  NoneIdle u = NoIdleBelow w.records u

  -- u is the lowest idle parcel
  pub record LowestIdle (u : ℕ) : Type 0 where
    pub parcel : u < parcels t
    pub idle : state w.records u ≡ 0
    pub lowest : NoneIdle u

  -- no note waits for a store below s
  abbrev pub NoneWaiting : ℕ → Type 0
  NoneWaiting s = NoNoteBelow w.next s

  -- no parcel is idle, and s is the lowest store with a note
  pub record LowestStore (s : ℕ) : Type 0 where
    pub store : s < t.limit
    pub none_idle : NoneIdle (parcels t)
    pub note : is_some (w.next s) ≡ true
    pub lowest : NoneWaiting s

  -- no parcel is idle, and no note waits for the sheet's stores
  pub record Quiet : Type 0 where
    pub none_idle : NoneIdle (parcels t)
    pub none_waiting : NoneWaiting t.limit

-- a run of at most so many turns makes a number of them, one after the other, and ends
pub data Ran {K : Type 0} (atleast : K → K → Bool) (t : Graph K) : ℕ → World → ℕ → Ending → World → Type 0 where
  other_sizes : {b : ℕ} {w : World} → fits t w ≡ false → Ran atleast t b w 0 (Refused 12 0) w
  still : {b : ℕ} {w : World} → fits t w ≡ true → Quiet t w → Ran atleast t b w 0 Still w
  spent : {w : World} → fits t w ≡ true → (Quiet t w → ⊥) → Ran atleast t 0 w 0 Spent w
  refused_start : {b u k p : ℕ} {w : World} → fits t w ≡ true → LowestIdle t w u → StartRefused atleast t w u k p → Ran atleast t (suc b) w 0 (Refused k p) w
  refused_fetch : {b s k p : ℕ} {w : World} → fits t w ≡ true → LowestStore t w s → FetchRefused atleast t w s k p → Ran atleast t (suc b) w 0 (Refused k p) w
  then_start : {b u n : ℕ} {e : Ending} {w v w' : World} → LowestIdle t w u → Started atleast t u w v → Ran atleast t b v n e w' → Ran atleast t (suc b) w (suc n) e w'
  then_fetch : {b s n : ℕ} {e : Ending} {w v w' : World} → LowestStore t w s → Fetched atleast t s w v → Ran atleast t b v n e w' → Ran atleast t (suc b) w (suc n) e w'
