use Rattle.pairing.proofs.Compared.{two_for_one}
use Rattle.pairing.proofs.two_for_one.Goals as goal

pub returns : goal.returns
returns g c = two_for_one g.K.Ranking.atleast g.met.K.Ranking.lawful
