use Rattle.std.proofs.Common.{◌≡◌, length, take}
use Rattle.text.proofs.Steps.{Sofar}
use Rattle.text.proofs.reader.numbers.Given as goal

abbrev pub invariant-loop-value : goal.invariant-loop-value
invariant-loop-value g l = (length l.value-items ≡ length l.initial.value-items) × Sofar (take l.value-index l.value-items) l.line.bytes.now l.fields.rest
