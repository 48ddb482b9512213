-- The parts of a turn. Assumes nothing.
use Rattle.std.specs.Prelude.{◌≡◌, ℕ, ◌+◌, ◌-◌, ◌<◌, ◌≤◌, Bool, true, false, List, ◌∷◌, ◌++◌, length, Some, None, Option, slice_index, slice_set}
use Rattle.std.specs.List.Sorted.{IsPermutation}
use Rattle.line.specs.declared.Kind.{Kind}
use Rattle.line.specs.declared.Note.{Note}
use Rattle.line.specs.Kinds.{code}
use Rattle.records.specs.declared.record.Record.{Record}
use Rattle.sheet.specs.Graph.{Graph, InRow}
use Rattle.choosing.specs.Top.{Top}
use Rattle.protocol.specs.World.{sizes_fit}
use Rattle.protocol.specs.Marks.{open', bidden, open_others, drop, strike}
use Rattle.protocol.specs.Steps.{LetsGo, Chooses, Receives, entry_of}
use Rattle.protocol.specs.Turns.{counted, stray}
use Rattle.round.specs.declared.state.Round.{Round}
use Rattle.round.specs.declared.choose.Plan.{Plan}
use Rattle.round.specs.declared.choose.Plan.TheVariants.{Alone, Waits, Pairs}

-- what a parcel means to do, and how many notes that sends
abbrev pub Planned : {K : Type 0} → (K → K → Bool) → Graph K → ℕ → List ℕ → Plan → Type 0
Planned atleast t u m Alone = (p : ℕ) → InRow t u p → open' m p ≡ false
Planned atleast t u m (Waits p) = Top atleast t (open' m) u p × (bidden m p ≡ false)
Planned atleast t u m (Pairs p n) = Top atleast t (open' m) u p × (bidden m p ≡ true) × (n ≡ length (open_others t m u p) + 1)

-- how many notes a plan sends
abbrev pub sends : Plan → ℕ
sends Alone = 0
sends (Waits p) = 1
sends (Pairs p n) = n

-- if the test holds, a drop went along the entry at place q of row u, and it was struck; else nothing changed
abbrev pub DroppedOne : {K : Type 0} → Graph K → ℕ → ℕ → Bool → List ℕ → List ℕ → List Note → List Note → Type 0
DroppedOne t u q true m m' before after = (m' ≡ slice_set m q (strike (slice_index m q))) × IsPermutation (drop t u q ∷ before) after
DroppedOne t u q false m m' before after = (m' ≡ m) × (after ≡ before)

-- a parcel let go of all but one entry, and the drops are on the line
pub record LetGo {K : Type 0} (t : Graph K) (u p : ℕ) (m m' : List ℕ) (before after : List Note) : Type 0 where
  pub out : List Note
  pub go : LetsGo t u p m m' out
  pub put : IsPermutation (out ++ before) after

-- a parcel chose, and what it sent is on the line
pub record Chose {K : Type 0} (atleast : K → K → Bool) (t : Graph K) (u : ℕ) (m : List ℕ) (r : Record) (m' : List ℕ) (before after : List Note) (count : ℕ) : Type 0 where
  pub out : List Note
  pub chooses : Chooses atleast t u m r m' out
  pub put : IsPermutation (out ++ before) after
  pub many : length out ≡ count

-- the tables have the sheet's lengths, and the round its sizes
abbrev pub tables_fit : {K : Type 0} → Graph K → Round → List Record → List ℕ → Bool
tables_fit t round rs m = sizes_fit t (length rs) (length m) round.parcels round.entries round.stores

-- a parcel in this state cannot start: it has started, or its record is out of range
pub data Unstartable (s : ℕ) : ℕ → Type 0 where
  has_started : 1 ≤ s → s ≤ 3 → Unstartable s 13
  out_of_range : 3 < s → Unstartable s 16

-- both counts of a round went on
pub record Counted (before after : Round) (sent : ℕ) : Type 0 where
  pub parcels : after.parcels ≡ before.parcels
  pub entries : after.entries ≡ before.entries
  pub stores : after.stores ≡ before.stores
  pub turns : after.turns ≡ counted before.turns 1
  pub sent' : after.sent ≡ counted before.sent sent

-- what a note says and the addressee's entry for the sender, if the note can come to store s
abbrev pub ComesTo : {K : Type 0} → (K → K → Bool) → Graph K → ℕ → Note → Option (Kind × ℕ) → Type 0
ComesTo atleast t s n None = stray atleast t s n ≡ true
ComesTo atleast t s n (Some x) = (stray atleast t s n ≡ false) × (code x.0 ≡ n.kind) × (x.1 ≡ entry_of t n)

-- the note was taken and received, and what that sent is on the line
pub record Took {K : Type 0} (atleast : K → K → Bool) (t : Graph K) (n : Note) (r : Record) (m : List ℕ) (r' : Record) (m' : List ℕ) (before after : List Note) (free count : ℕ) : Type 0 where
  pub rest : List Note
  pub taken : IsPermutation (n ∷ rest) before
  pub out : List Note
  pub receives : Receives atleast t n r m r' m' out
  pub put : IsPermutation (out ++ rest) after
  pub many : length out ≡ count
  pub room : count ≤ free + 1

-- to receive the note would send more than there is room for
pub record TooMany {K : Type 0} (atleast : K → K → Bool) (t : Graph K) (n : Note) (r : Record) (m : List ℕ) (free : ℕ) : Type 0 where
  pub record' : Record
  pub marks' : List ℕ
  pub out : List Note
  pub receives : Receives atleast t n r m record' marks' out
  pub over : free + 1 < length out

-- what receiving a note answers: the addressee's record and how many notes it sent; or nothing, and then nothing changed
abbrev pub Received : {K L : Type 0} → (K → K → Bool) → Graph K → (L → List Note) → (L → ℕ) → Note → Record → Option (Record × ℕ) → List ℕ → List ℕ → L → L → Type 0
Received atleast t waiting capacity n r None m m' line line' = TooMany atleast t n r m (capacity line - length (waiting line)) × (m' ≡ m) × (line' ≡ line)
Received atleast t waiting capacity n r (Some x) m m' line line' = Took atleast t n r m x.0 m' (waiting line) (waiting line') (capacity line - length (waiting line)) x.1 × (capacity line' ≡ capacity line)
