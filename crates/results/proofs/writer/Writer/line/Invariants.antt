use Rattle.std.proofs.Common.{take}
use Rattle.results.specs.Writing.{Wrote}
use Rattle.results.proofs.Lines.{fields}
use Rattle.results.proofs.writer.Writer.line.Given as goal

abbrev pub invariant-loop-n : goal.invariant-loop-n
invariant-loop-n l = Wrote l.initial.self l.self (fields (take l.n-index l.others))
