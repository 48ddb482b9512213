use Rattle.std.proofs.Common.{◌≡◌, true}
use Rattle.sheet.specs.Held.{held}
use Rattle.protocol.specs.World.{fits}
use Rattle.round.specs.Seen.{seen, SameBoard}
use Rattle.protocol.specs.Runs.{NoIdleBelow}
use Rattle.rounds.proofs.Going.{Went}
use Rattle.rounds.proofs.run.Given as goal

abbrev pub invariant-loop-made : goal.invariant-loop-made
invariant-loop-made g l =
    let m = g.L.Line in
    let before = seen m.waiting m.capacity m.chosen l.initial.round l.initial.board in
    let now = seen m.waiting m.capacity m.chosen l.round l.board in
    Went g.K.Ranking.atleast (held l.sheet) before l.made now × (fits (held l.sheet) now ≡ true) × SameBoard l.initial.board l.board × NoIdleBelow l.board.records.now l.from
