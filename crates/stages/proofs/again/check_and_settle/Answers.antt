use Rattle.std.proofs.Common.{sym, subst}
use Rattle.ranking.specs.Kinds.{cents_atleast}
use Rattle.sheet.specs.Check.{Alike}
use Rattle.sheet.specs.View.{graph}
use Rattle.stages.proofs.again.check_and_settle.Goals as goal

pub settle_again-requires : goal.settle_again-requires
settle_again-requires g c =
    let passed = c.in_ok-check.ensures in
    subst (λ x. Alike cents_atleast (graph x)) (sym passed.1) passed.0.alike
