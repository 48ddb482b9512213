-- What a writer does to its buffer. Assumes nothing.
use Rattle.std.specs.Prelude.{◌≡◌, ℕ, ◌+◌, ◌≤◌, List, length}
use Rattle.results.specs.declared.writer.Writer.{Writer}
use Rattle.results.specs.Text.{put_in}

-- the buffer has room for these bytes, after those that are written
abbrev pub RoomFor : Writer → List ℕ → Type 0
RoomFor w bytes = w.count + length bytes ≤ length w.buffer.now

-- these bytes were written, to the same buffer, after those that were there
pub record Wrote (old new : Writer) (text : List ℕ) : Type 0 where
  pub same_reference : new.buffer.ghost_name ≡ old.buffer.ghost_name
  pub count : new.count ≡ old.count + length text
  pub bytes : new.buffer.now ≡ put_in old.buffer.now old.count text
