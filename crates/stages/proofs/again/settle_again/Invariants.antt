use Rattle.std.proofs.Common.{◌≡◌, ◌<◌, ◌⊎◌}
use Rattle.sheet.specs.Held.{held}
use Rattle.records.specs.Totals.{no_totals}
use Rattle.round.specs.Seen.{SameBoard}
use Rattle.rounds.specs.Settling.{Ready}
use Rattle.stages.specs.Answers.{RoundOf}
use Rattle.stages.proofs.again.settle_again.Given as goal

abbrev pub invariant-loop : goal.invariant-loop
invariant-loop g l =
    let rs = l.board.records.now in
    let m = l.board.marks.now in
    let line = l.board.line.now in
    ((l.counter ≡ 0) × (l.totals ≡ no_totals) × (l.board ≡ l.initial.board))
    ⊎ ((0 < l.counter) × RoundOf (held l.sheet) l.totals rs m × Ready (held l.sheet) rs m (g.L.Line.waiting line) (g.L.Line.capacity line) × SameBoard l.initial.board l.board)
