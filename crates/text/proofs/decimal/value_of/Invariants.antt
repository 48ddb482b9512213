use Rattle.std.proofs.Common.{◌≡◌, take}
use Rattle.std.specs.List.{AllByRecursion}
use Rattle.text.specs.Numbers.{Digit, value}
use Rattle.text.proofs.decimal.value_of.Given as goal

abbrev pub invariant-loop-b : goal.invariant-loop-b
invariant-loop-b l = AllByRecursion Digit (take l.b-index l.bytes) × (l.value ≡ value (take l.b-index l.bytes))
