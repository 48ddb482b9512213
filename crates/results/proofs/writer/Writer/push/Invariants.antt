use Rattle.std.proofs.Common.{take}
use Rattle.results.specs.Writing.{Wrote}
use Rattle.results.proofs.writer.Writer.push.Given as goal

abbrev pub invariant-loop-byte : goal.invariant-loop-byte
invariant-loop-byte l = Wrote l.initial.self l.self (take l.byte-index l.bytes)
