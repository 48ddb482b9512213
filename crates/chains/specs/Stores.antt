-- The notes of each store in a pool, and what a call leaves of them. Assumes nothing.
use Rattle.std.specs.Prelude.{◌≡◌, ℕ, ◌<◌, ◌≤◌, true, cond, List, [], ◌∷◌, length, drop, Some, None, Ok, Err, Option, Result, ◌≢◌, nat_lt, slice_index}
use Rattle.std.specs.List.{list_all}
use Rattle.faults.specs.declared.Refusal.{Refusal}
use Rattle.line.specs.declared.Note.{Note}
use Rattle.chains.specs.declared.Slot.{Slot}
use Rattle.chains.specs.declared.End.{End}
use Rattle.chains.specs.declared.Pool.{Pool}
use Rattle.chains.specs.Gathered.{gathered}
use Rattle.chains.specs.Tables.{Kept, Movable, held, joined}
use Rattle.chains.specs.Walk.{chain, holds, last_or}

-- the notes on the chain of store s, first to last; no chain is for a store above 63
abbrev pub notes_in : List Slot → List ℕ → ℕ → ℕ → List Note
notes_in slots heads capacity s = cond (nat_lt s 64) (held slots heads capacity s) []

-- how many notes a pool has places for
abbrev pub capacity_of : Pool → ℕ
capacity_of pool = length pool.slots.now

-- the notes of store s in a pool, first to last
abbrev pub by_store : Pool → ℕ → List Note
by_store pool = notes_in pool.slots.now pool.heads (capacity_of pool)

-- the places of a chain of the pool
abbrev pub places_of : Pool → ℕ → List ℕ
places_of pool = chain pool.slots.now pool.heads (capacity_of pool)

-- the capacity is within the limit
abbrev pub Sized : Pool → Type 0
Sized pool = capacity_of pool ≤ 16384

-- the chains have as many places as the capacity says, and the free one as many as are counted
abbrev pub Counted : Pool → Type 0
Counted pool = (length (gathered (places_of pool) 65) ≡ capacity_of pool) × (length (places_of pool 64) ≡ pool.room)

-- each place stands on the chain that its note names, and each tail is the last place of its chain
abbrev pub Chained : Pool → Type 0
Chained pool =
    (s : ℕ) → s < 65 → (list_all (holds pool.slots.now s) (places_of pool s) ≡ true) × (last_or (slice_index pool.tails s) (places_of pool s) ≡ slice_index pool.tails s)

-- what a pool keeps at all times
pub record Sound (pool : Pool) : Type 0 where
  pub sized : Sized pool
  pub counted : Counted pool
  pub chained : Chained pool

-- what the moves between chains keep of the tables
abbrev pub KeptIn : Pool → Type 0
KeptIn pool = Kept pool.slots.now pool.heads pool.tails (capacity_of pool)

-- chain `from` has a place to give to the chain of the note
abbrev pub MovableIn : Pool → ℕ → Note → Type 0
MovableIn pool from note = Movable pool.slots.now pool.heads pool.tails (capacity_of pool) from note

-- the notes on each chain of the pool, the free one too
abbrev pub held_in : Pool → ℕ → List Note
held_in pool = held pool.slots.now pool.heads (capacity_of pool)

-- as many places as before, of which as many are counted as free
abbrev pub SameSizes : Pool → Pool → Type 0
SameSizes old new = (new.room ≡ old.room) × (capacity_of new ≡ capacity_of old)

-- the notes of all stores
abbrev pub all_notes : Pool → List Note
all_notes pool = gathered (by_store pool) 64

-- the first of the notes, if there is one
abbrev pub front : List Note → Option Note
front [] = None
front (note ∷ _) = Some note

-- every store but t has the notes that it had
abbrev pub Elsewhere : ℕ → (ℕ → List Note) → (ℕ → List Note) → Type 0
Elsewhere t old new = (s : ℕ) → (s ≢ t) → new s ≡ old s

-- the note stands before those that its store had, or behind them
abbrev pub Placed : End → Note → Pool → Pool → Type 0
Placed end note old new =
    (by_store new note.store ≡ joined end note (by_store old note.store)) × Elsewhere note.store (by_store old) (by_store new)

-- the first note of store s is gone
abbrev pub Removed : ℕ → Pool → Pool → Type 0
Removed s old new = (by_store new s ≡ drop 1 (by_store old s)) × Elsewhere s (by_store old) (by_store new)

-- after a put: the note stands at that end of its store's notes, or the pool is as it was
abbrev pub PutAt : End → Result (Unit {0}) (Refusal × ℕ) → Note → Pool → Pool → Type 0
PutAt end (Ok _) note old new = Placed end note old new
PutAt end (Err _) note old new = new ≡ old

-- after a take for store s: its first note is gone, or it had none and the pool is as it was
abbrev pub TakenFirst : Option Note → ℕ → Pool → Pool → Type 0
TakenFirst (Some note) s old new = (by_store old s ≡ note ∷ by_store new s) × Elsewhere s (by_store old) (by_store new)
TakenFirst None s old new = (by_store old s ≡ []) × (new ≡ old)
