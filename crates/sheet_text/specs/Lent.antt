-- What the lent memory holds. Assumes nothing.
use Rattle.std.specs.Prelude.{◌≡◌, ℕ, List, length}
use Rattle.reading.specs.Outcome.{lent, SameSlices}
use Rattle.sheet_text.specs.declared.MemoryMut.{MemoryMut}
use Rattle.sheet_text.specs.Pairing.{Memory, memory}

-- the contents of the lent memory, and of the buffer for the result text
abbrev pub lent_memory : MemoryMut → List ℕ → Memory
lent_memory m out = memory (lent m.tables) m.records.now m.marks.now m.slots.now out

-- the same slices are lent, each as long as it was, whatever they hold
pub record SameMemory (was is : MemoryMut) : Type 0 where
  pub tables : SameSlices was.tables is.tables
  pub records : is.records.ghost_name ≡ was.records.ghost_name
  pub marks : is.marks.ghost_name ≡ was.marks.ghost_name
  pub slots : is.slots.ghost_name ≡ was.slots.ghost_name
  pub records_long : length is.records.now ≡ length was.records.now
  pub marks_long : length is.marks.now ≡ length was.marks.now
  pub slots_long : length is.slots.now ≡ length was.slots.now
