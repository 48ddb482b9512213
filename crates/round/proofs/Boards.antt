-- A board that still lends the same. Assumes nothing.
use Rattle.std.proofs.Common.{refl, ◌∙◌}
use Rattle.round.specs.declared.state.Board.{Board}
use Rattle.round.specs.Seen.{SameBoard}

pub same_board : {L : Type 0} {b : Board L} → SameBoard b b
same_board = record { records = refl; marks = refl; line = refl; records_long = refl; marks_long = refl }

pub same_boards : {L : Type 0} {a b c : Board L} → SameBoard a b → SameBoard b c → SameBoard a c
same_boards x y = record {
  records = y.records ∙ x.records;
  marks = y.marks ∙ x.marks;
  line = y.line ∙ x.line;
  records_long = y.records_long ∙ x.records_long;
  marks_long = y.marks_long ∙ x.marks_long;
}
