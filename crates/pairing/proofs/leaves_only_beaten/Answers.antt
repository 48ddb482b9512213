use Rattle.matching.proofs.Greedy.{greedy_stable}
use Rattle.pairing.specs.Pairs.{sheet_pairs}
use Rattle.pairing.specs.Above.{above}
use Rattle.pairing.proofs.Orders.{above_ordered}
use Rattle.pairing.proofs.leaves_only_beaten.Goals as goal

pub returns : goal.returns
returns g c t = let atleast = g.K.Ranking.atleast in (greedy_stable (above atleast t) (sheet_pairs t) (above_ordered atleast g.met.K.Ranking.lawful t)).settled
