use Rattle.pairing.proofs.Orders.{row_above}
use Rattle.pairing.proofs.rows_in_order.Goals as goal

pub returns : goal.returns
returns g c = row_above g.K.Ranking.atleast g.met.K.Ranking.lawful
