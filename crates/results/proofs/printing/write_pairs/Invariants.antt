use Rattle.sheet.specs.Held.{held}
use Rattle.results.specs.Writing.{Wrote}
use Rattle.results.proofs.Pairs.{lines_below}
use Rattle.results.proofs.printing.write_pairs.Given as goal

abbrev pub invariant-loop-u : goal.invariant-loop-u
invariant-loop-u g l = Wrote l.initial.text l.text (lines_below (held l.ledger.sheet.now) l.ledger.records.now l.u)
