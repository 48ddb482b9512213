use Rattle.pairing.proofs.Compared.{half_the_cents}
use Rattle.pairing.proofs.half_the_cents.Goals as goal

pub returns : goal.returns
returns c = half_the_cents
