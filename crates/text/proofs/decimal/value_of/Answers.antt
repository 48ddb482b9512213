use Rattle.std.proofs.Common.{◌+◌, arith}
use Rattle.std.proofs.ByRecursion.{All-more}
use Rattle.text.specs.Numbers.{Digit}
use Rattle.text.proofs.Worth.{value_grows, value_more}
use Rattle.text.proofs.decimal.value_of.Goals as goal

pub returns-in_err-checked_mul : goal.returns-in_err-checked_mul
returns-in_err-checked_mul c =
    let bytes = c.args.bytes.now in
    let i = c.loop-b.b-index in
    let grown = value_grows bytes (i + 1) in
    let step = value_more bytes i (omega arith) in
    let was = c.loop-b.invariant.1 in
    let big = c.in_err-checked_mul.ensures in
    rw c.from_residual.ensures (λ _. omega arith)

pub returns-in_err-value : goal.returns-in_err-value
returns-in_err-value c =
    let bytes = c.args.bytes.now in
    let i = c.loop-b.b-index in
    let grown = value_grows bytes (i + 1) in
    let step = value_more bytes i (omega arith) in
    let was = c.loop-b.invariant.1 in
    let big = c.in_err-value.ensures in
    let tens = c.in_ok-checked_mul.ensures in
    rw c.from_residual-in_err-value.ensures (λ _. omega arith)

pub loop-b-preserved : goal.loop-b-preserved
loop-b-preserved c =
    let step = value_more c.args.bytes.now c.loop-b.b-index (omega arith) in
    let was = c.loop-b.invariant.1 in
    let tens = c.in_ok-checked_mul.ensures in
    let sum = c.in_ok-value.ensures in
    (All-more Digit c.args.bytes.now c.loop-b.b-index 0 (omega arith) c.loop-b.invariant.0 (omega (arith, c.if-not-is_ascii_digit.ensures)), omega arith)
