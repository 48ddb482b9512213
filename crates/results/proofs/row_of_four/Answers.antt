use Rattle.std.proofs.Common.{refl}
use Rattle.std.specs.Fmt.{digits}
use Rattle.results.proofs.row_of_four.Goals as goal

pub returns : goal.returns
unfolding digits
returns c = (refl, refl, refl)
