use Rattle.matching.proofs.Once.{greedy_is_pairing}
use Rattle.pairing.specs.Pairs.{sheet_pairs}
use Rattle.pairing.specs.Above.{above}
use Rattle.pairing.proofs.Orders.{above_ordered}
use Rattle.pairing.proofs.uses_none_twice.Goals as goal

pub returns : goal.returns
returns g c t = let atleast = g.K.Ranking.atleast in greedy_is_pairing (above atleast t) (above_ordered atleast g.met.K.Ranking.lawful t) (sheet_pairs t)
