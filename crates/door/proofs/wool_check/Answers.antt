use Rattle.door.proofs.Full.{roomy}
use Rattle.door.proofs.wool_check.Goals as goal

pub returns-clause-roomy : goal.returns-clause-roomy
returns-clause-roomy c = roomy c.from.result c.check_within.result c.from.ensures c.check_within.ensures
