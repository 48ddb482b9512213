-- What the calls of a round see. Assumes nothing.
use Rattle.std.specs.Prelude.{◌≡◌, ℕ, List, length, Option}
use Rattle.line.specs.declared.Note.{Note}
use Rattle.records.specs.declared.record.Record.{Record}
use Rattle.protocol.specs.World.{World}
use Rattle.round.specs.declared.state.Round.{Round}
use Rattle.round.specs.declared.state.Board.{Board}

-- an open round with its records and marks, and a line by what it means
abbrev pub world : {L : Type 0} → (L → List Note) → (L → ℕ) → (L → ℕ → Option Note) → Round → List Record → List ℕ → L → World
world waiting capacity chosen round records marks line = record {
  parcel_count = round.parcels;
  entry_count = round.entries;
  store_count = round.stores;
  turns = round.turns;
  sent = round.sent;
  records = records;
  marks = marks;
  waiting = waiting line;
  capacity = capacity line;
  next = chosen line;
}

-- the same, of what a board lends
abbrev pub seen : {L : Type 0} → (L → List Note) → (L → ℕ) → (L → ℕ → Option Note) → Round → Board L → World
seen waiting capacity chosen round board = world waiting capacity chosen round board.records.now board.marks.now board.line.now

-- the same tables and line are lent, the tables as long as they were, whatever they hold
pub record SameBoard {L : Type 0} (was is : Board L) : Type 0 where
  pub records : is.records.ghost_name ≡ was.records.ghost_name
  pub marks : is.marks.ghost_name ≡ was.marks.ghost_name
  pub line : is.line.ghost_name ≡ was.line.ghost_name
  pub records_long : length is.records.now ≡ length was.records.now
  pub marks_long : length is.marks.now ≡ length was.marks.now
