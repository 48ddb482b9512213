use Rattle.std.proofs.Common.{arith}
use Rattle.std.proofs.lemmas.Fmt.{decimal_digit, decimal_is_IsNumeral, first_decimal}
use Rattle.results.proofs.numbers_read_back.Goals as goal

pub returns : goal.returns
returns c = (λ n small. let reads = decimal_is_IsNumeral n (omega arith) in (reads.0, reads.1, λ some. first_decimal n some (omega arith)), decimal_digit 0 (omega arith))
