use Rattle.std.proofs.Common.{refl, subst, inl, inr, arith}
use Rattle.ranking.specs.Kinds.{cents_atleast}
use Rattle.sheet.specs.Held.{held}
use Rattle.round.specs.Seen.{SameBoard}
use Rattle.round.proofs.Boards.{same_boards}
use Rattle.stages.proofs.Rounds.{ready_again}
use Rattle.stages.proofs.again.settle_again.Goals as goal

pub loop-preserved : goal.loop-preserved
loop-preserved g c =
    let t = held c.args.sheet.now in
    let did = c.in_ok-totals.ensures in
    let ended = did.did in
    let whole = did.settles c.requires in
    inr (
      omega arith,
      record { world = _; records = refl; marks = refl; came = ended.0.came; closed = ended.1; entire = whole.1.whole },
      ready_again cents_atleast t ended.0.came ended.1,
      elim c.loop.invariant [
        | inl first ↦ subst (λ b. SameBoard b c.settle.new.board) first.2 did.board
        | inr later ↦ same_boards later.3 did.board
      ],
    )
