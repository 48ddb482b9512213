-- What the tables of a pool keep, and what a move from one chain to another does. Assumes nothing.
use Rattle.std.specs.Prelude.{◌≡◌, ℕ, ◌<◌, ◌≤◌, true, ◌≢◌, List, [], ◌∷◌, ◌++◌, map, length, drop, slice_index, slice_index_or}
use Rattle.std.specs.List.{list_all}
use Rattle.line.specs.declared.Note.{Note}
use Rattle.chains.specs.declared.End.{End}
use Rattle.chains.specs.declared.End.TheVariants.{Front, Back}
use Rattle.chains.specs.declared.Slot.{Slot}
use Rattle.chains.specs.Gathered.{gathered}
use Rattle.chains.specs.Walk.{slot_at, chain, holds, last_or}

-- the chains have as many places as the capacity says, each on the chain that its note names, and each tail is the last place of its chain
pub record Kept (slots : List Slot) (heads tails : List ℕ) (capacity : ℕ) : Type 0 where
  pub whole : length (gathered (chain slots heads capacity) 65) ≡ capacity
  pub owned : (s : ℕ) → s < 65 → list_all (holds slots s) (chain slots heads capacity s) ≡ true
  pub ended : (s : ℕ) → s < 65 → last_or (slice_index tails s) (chain slots heads capacity s) ≡ slice_index tails s

-- chain `from` has a place to give to another chain, the one of the note
pub record Movable (slots : List Slot) (heads tails : List ℕ) (capacity from : ℕ) (note : Note) : Type 0 where
  pub kept : Kept slots heads tails capacity
  pub limit : capacity ≤ 16384
  pub lent : capacity ≤ length slots
  pub many_heads : length heads ≡ 65
  pub many_tails : length tails ≡ 65
  pub low : from < 65
  pub known : note.store < 65
  pub apart : from ≢ note.store
  pub some : slice_index_or heads from 0 < capacity

-- the notes on a chain, first to last
abbrev pub held : List Slot → List ℕ → ℕ → ℕ → List Note
held slots heads capacity s = map (λ p. (slot_at slots p).note) (chain slots heads capacity s)

-- the notes of a chain with one more at an end
abbrev pub joined : End → Note → List Note → List Note
joined Front note notes = note ∷ notes
joined Back note notes = notes ++ note ∷ []

-- the first place of one chain has left it for the note's chain, and joined that at an end
pub record Moved (end : End) (from : ℕ) (note : Note) (old new : ℕ → List Note) : Type 0 where
  pub left : new from ≡ drop 1 (old from)
  pub had : 0 < length (old from)
  pub joins : new note.store ≡ joined end note (old note.store)
  pub others : (s : ℕ) → s < 65 → s ≢ from → s ≢ note.store → new s ≡ old s
