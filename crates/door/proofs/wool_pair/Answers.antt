use Rattle.door.proofs.Full.{short_answer}
use Rattle.door.proofs.wool_pair.Goals as goal

pub returns-clause-short : goal.returns-clause-short
returns-clause-short c = short_answer c.from.result c.pair_within.result c.from.ensures c.pair_within.ensures
