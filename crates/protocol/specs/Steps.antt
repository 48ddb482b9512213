-- What a parcel does in a turn: it chooses, pairs, or receives a bid or a drop. Assumes nothing.
use Rattle.std.specs.Prelude.{◌≡◌, ℕ, ◌+◌, ◌-◌, Bool, true, false, cond, ◌&&◌, List, [], ◌∷◌, map, length, ◌==◌, slice_index, slice_set}
use Rattle.line.specs.declared.Note.{Note}
use Rattle.records.specs.declared.record.Record.{Record}
use Rattle.records.specs.Records.{lone_record}
use Rattle.sheet.specs.Graph.{Graph, InRow, row_start, place_of}
use Rattle.choosing.specs.Top.{Top}
use Rattle.protocol.specs.Marks.{open', bidden, open_others, bid, drop, strike, note_bid, let_go}

-- the record of a parcel of this state that chose the entry at place p
abbrev pub with_choice : {K : Type 0} → Graph K → ℕ → ℕ → ℕ → Record
with_choice t state u p = record { state = state; choice = p - row_start t u }

-- parcel u lets go of all but place p: in row order every other open entry is sent a drop and struck
pub record LetsGo {K : Type 0} (t : Graph K) (u p : ℕ) (m m' : List ℕ) (out : List Note) : Type 0 where
  pub drops : out ≡ map (drop t u) (open_others t m u p)
  pub long : length m' ≡ length m
  pub struck : (q : ℕ) → slice_index m' q ≡ cond (let_go t m u p q) (strike (slice_index m q)) (slice_index m q)

-- parcel u chooses: from marks m it comes to a record, marks m' and notes to send
pub data Chooses {K : Type 0} (atleast : K → K → Bool) (t : Graph K) (u : ℕ) (m : List ℕ) : Record → List ℕ → List Note → Type 0 where
  -- with no open entry it becomes lone
  alone : ((p : ℕ) → InRow t u p → open' m p ≡ false) → Chooses atleast t u m lone_record m []
  -- else it bids for its open entry that stands above the other open ones, and waits there
  waits : {p : ℕ} → Top atleast t (open' m) u p → bidden m p ≡ false → Chooses atleast t u m (with_choice t 1 u p) m (bid t u p ∷ [])
  -- or pairs there, if a bid came from there
  pairs : {p : ℕ} {m' : List ℕ} {out : List Note} → Top atleast t (open' m) u p → bidden m p ≡ true → LetsGo t u p m m' out → Chooses atleast t u m (with_choice t 2 u p) m' (bid t u p ∷ out)

-- the entry of the addressee for the sender
abbrev pub entry_of : {K : Type 0} → Graph K → Note → ℕ
entry_of t n = place_of t n.addressee n.sender

-- the marks once a bid was noted there, and once it was struck
abbrev pub heard : {K : Type 0} → Graph K → Note → List ℕ → List ℕ
heard t n m = slice_set m (entry_of t n) (note_bid (slice_index m (entry_of t n)))

abbrev pub dropped : {K : Type 0} → Graph K → Note → List ℕ → List ℕ
dropped t n m = slice_set m (entry_of t n) (strike (slice_index m (entry_of t n)))

-- the addressee, which has record r, waits with the choice of the sender
abbrev pub awaited : {K : Type 0} → Graph K → Note → Record → Bool
awaited t n r = r.state == 1 && row_start t n.addressee + r.choice == entry_of t n

-- the addressee of a note, with record r and marks m, receives it: it comes to a record, marks and notes to send
pub data Receives {K : Type 0} (atleast : K → K → Bool) (t : Graph K) (n : Note) (r : Record) (m : List ℕ) : Record → List ℕ → List Note → Type 0 where
  -- a bid is marked at the entry for its sender
  hears : n.kind ≡ 1 → awaited t n r ≡ false → Receives atleast t n r m r (heard t n m) []
  -- and if the addressee waits with that choice, it pairs there
  agrees : {m' : List ℕ} {out : List Note} → n.kind ≡ 1 → awaited t n r ≡ true → LetsGo t n.addressee (entry_of t n) (heard t n m) m' out → Receives atleast t n r m (with_choice t 2 n.addressee (entry_of t n)) m' out
  -- a drop strikes that entry
  loses : n.kind ≡ 2 → awaited t n r ≡ false → Receives atleast t n r m r (dropped t n m) []
  -- and if the addressee waits with that choice, it chooses
  turns : {r' : Record} {m' : List ℕ} {out : List Note} → n.kind ≡ 2 → awaited t n r ≡ true → Chooses atleast t n.addressee (dropped t n m) r' m' out → Receives atleast t n r m r' m' out
