use Rattle.std.proofs.Common.{◌≡◌, sym, ap, ◌∙◌, subst, arith}
use Rattle.sheet.specs.Graph.{parcels}
use Rattle.sheet.specs.View.{graph}
use Rattle.sheet.specs.Held.{held}
use Rattle.protocol.specs.Runs.{NoIdleBelow, other_sizes}
use Rattle.protocol.proofs.Holds.{fits_facts}
use Rattle.round.specs.Seen.{seen}
use Rattle.round.proofs.Boards.{same_board, same_boards}
use Rattle.rounds.proofs.Going.{here, busy_below, turned_ok, ends_still, ends_refused, ends_spent, ends_quiet}
use Rattle.rounds.proofs.run.Goals.{in-StartOf, in-FetchFor}
use Rattle.rounds.proofs.run.Goals as goal

pub returns-then-not-fits : goal.returns-then-not-fits
returns-then-not-fits g c = record { turns = rw c.from.ensures (other_sizes (sym c.if-not-fits.ensures)); bound = omega arith; board = same_board }

pub loop-made-init : goal.loop-made-init
loop-made-init g c = (here, sym c.if-not-fits.ensures, same_board, λ v below. omega (arith, below))

pub next_turn-requires : goal.next_turn-requires
next_turn-requires g c =
    let t = held c.args.sheet.now in
    let l = g.L.Line in
    let w = seen l.waiting l.capacity l.chosen c.loop-made.round c.loop-made.board in
    record { long = (fits_facts t w c.loop-made.invariant.1).records_long; busy = c.loop-made.invariant.3 }

pub loop-made-preserved : goal.loop-made-preserved
loop-made-preserved g c =
    let inv = c.loop-made.invariant in
    let told = c.in_default-make_turn.ensures in
    let went = turned_ok g.K.Ranking.atleast (held c.args.sheet.now) c.in-Some.turn c.in_default-make_turn.field-0 c.in-Some.ensures told.turn inv.0 in
    let below = busy_below (parcels (held c.args.sheet.now)) in
    let from-is : c.match-turn.from ≡ below c.in-Some.turn =
    elim c.match-turn.branch [
      | in-StartOf w ↦ w.from-is ∙ sym (ap below w.in-StartOf.is)
      | in-FetchFor w ↦ w.from-is ∙ ap (λ x. parcels (graph x)) w.tables.ensures ∙ sym (ap below w.in-FetchFor.is)
    ] in
    (went.0, went.1, same_boards inv.2 told.board, subst (NoIdleBelow c.make_turn.new.board.records.now) (sym from-is) went.2)

pub returns-in_default : goal.returns-in_default
returns-in_default g c =
    let inv = c.loop-made.invariant in
    record { turns = ends_still g.K.Ranking.atleast (held c.args.sheet.now) c.loop-made.made c.args.budget inv.0 inv.1 (omega (arith, c.loop-made-test.true)) c.in_default.ensures; bound = omega (arith, c.loop-made-test.true); board = inv.2 }

pub returns-in-Err : goal.returns-in-Err
returns-in-Err g c =
    let inv = c.loop-made.invariant in
    record { turns = rw c.from-in-Err.ensures (ends_refused g.K.Ranking.atleast (held c.args.sheet.now) c.loop-made.made c.args.budget inv.0 inv.1 c.loop-made-test.true c.in-Some.turn c.in-Err.fault c.in-Some.ensures c.in-Err.ensures.turn); bound = omega (arith, c.loop-made-test.true); board = same_boards inv.2 c.in-Err.ensures.board }

pub returns-in-Some-next_turn : goal.returns-in-Some-next_turn
returns-in-Some-next_turn g c =
    let inv = c.loop-made.invariant in
    record { turns = ends_spent g.K.Ranking.atleast (held c.args.sheet.now) c.loop-made.made c.args.budget inv.0 inv.1 (omega (arith, c.loop-made-test.false, c.loop-made.auto.made-end)) c.in-Some-next_turn.field-0 c.in-Some-next_turn.ensures; bound = omega arith; board = inv.2 }

pub returns-in-None : goal.returns-in-None
returns-in-None g c =
    let inv = c.loop-made.invariant in
    record { turns = ends_quiet g.K.Ranking.atleast (held c.args.sheet.now) c.loop-made.made c.args.budget inv.0 inv.1 (omega (arith, c.loop-made-test.false, c.loop-made.auto.made-end)) c.in-None.ensures; bound = omega arith; board = inv.2 }
