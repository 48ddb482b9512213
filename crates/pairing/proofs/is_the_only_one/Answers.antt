use Rattle.matching.proofs.Greedy.{greedy_stable}
use Rattle.matching.proofs.Stable.{only_one}
use Rattle.pairing.specs.Pairs.{sheet_pairs}
use Rattle.pairing.specs.Above.{above, greedy_pairing}
use Rattle.pairing.proofs.Orders.{above_ordered}
use Rattle.pairing.proofs.is_the_only_one.Goals as goal

pub returns : goal.returns
returns g c t M stable =
    let atleast = g.K.Ranking.atleast in
    let ordered = above_ordered atleast g.met.K.Ranking.lawful t in
    only_one (above atleast t) (sheet_pairs t) M (greedy_pairing atleast t) ordered stable (greedy_stable (above atleast t) (sheet_pairs t) ordered)
