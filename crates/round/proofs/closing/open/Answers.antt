use Rattle.round.proofs.Opening.{opens}
use Rattle.round.proofs.closing.open.Goals as goal

pub returns : goal.returns
returns g c = opens c.in_ok-round.ensures c.clear_records.auto.records c.clear_records.ensures c.fill.ensures.len _ (c.fill.ensures.after (λ y e. e))
