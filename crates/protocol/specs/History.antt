-- Histories: every list of calls since open, each beginning where the last one ended. Assumes nothing.
use Rattle.std.specs.Prelude.{◌≡◌, ℕ, ◌≤◌, Bool, List, [], ◌∷◌, length, Result, slice_index}
use Rattle.faults.specs.declared.Refusal.{Refusal}
use Rattle.records.specs.Records.{record_of}
use Rattle.sheet.specs.Graph.{Graph, parcels, entries}
use Rattle.protocol.specs.World.{World}
use Rattle.protocol.specs.Turns.{Start, Fetch}
use Rattle.protocol.specs.Runs.{Ran}
use Rattle.protocol.specs.declared.Ending.{Ending}

-- what open leaves: records of state 0 and choice 0, marks of 0, both counts 0, and an empty line with room for the entries
pub record Opened {K : Type 0} (t : Graph K) (w : World) : Type 0 where
  pub parcel_count : w.parcel_count ≡ parcels t
  pub entry_count : w.entry_count ≡ entries t
  pub store_count : w.store_count ≡ t.limit
  pub turns : w.turns ≡ 0
  pub sent : w.sent ≡ 0
  pub records_long : length w.records ≡ parcels t
  pub idle : (u : ℕ) → record_of w.records u ≡ record { state = 0; choice = 0 }
  pub marks_long : length w.marks ≡ entries t
  pub clear : (p : ℕ) → slice_index w.marks p ≡ 0
  pub empty : w.waiting ≡ []
  pub room : entries t ≤ w.capacity

-- a call on an open round
pub data Call : Type 0 where
  start : ℕ → Call
  fetch : ℕ → Call
  run : ℕ → Call
  refused_close : Call

-- what a call did: for a start or a fetch with its answer, for a run with its count and end; a refused close alters nothing
abbrev pub Did : {K : Type 0} → (K → K → Bool) → Graph K → Call → World → World → Type 0
Did atleast t (start u) w w' = (r : Result (Unit {0}) (Refusal × ℕ)) × Start atleast t u r w w'
Did atleast t (fetch s) w w' = (r : Result (Unit {0}) (Refusal × ℕ)) × Fetch atleast t s r w w'
Did atleast t (run b) w w' = (n : ℕ) × (e : Ending) × Ran atleast t b w n e w'
Did atleast t refused_close w w' = w' ≡ w

-- the worlds that some list of calls since open leads to, newest call first
pub data After {K : Type 0} (atleast : K → K → Bool) (t : Graph K) : List Call → World → Type 0 where
  opened : {w : World} → Opened t w → After atleast t [] w
  then : {calls : List Call} {w w' : World} (c : Call) → After atleast t calls w → Did atleast t c w w' → After atleast t (c ∷ calls) w'
