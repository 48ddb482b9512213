use Rattle.std.proofs.Common.{◌≡◌, ◌+◌, length, decimal, sum_by, ◌∙◌, rules, arith}
use Rattle.std.proofs.iter.runs.Made.{chains}
use Rattle.std.proofs.lemmas.Iterator.{YieldsList-from_slice}
use Rattle.std.proofs.lemmas.Iterator.Adapters.{at_most_from_yields_List}
use Rattle.results.proofs.Sums.{sum_most}
use Rattle.results.proofs.Lines.{line_length}
use Rattle.results.proofs.writer.line_length.Goals as goal

pub returns-clause-value : goal.returns-clause-value
returns-clause-value c =
    let sum : c.sum.result ≡ sum_by (λ n. length (decimal n) + 1) c.args.numbers.now = search (rules, chains) in
    sum ∙ line_length c.args.numbers.now

pub returns-clause-bound : goal.returns-clause-bound
returns-clause-bound c =
    let few = at_most_from_yields_List (YieldsList-from_slice c.args.numbers.now (cc)) c.requires in
    let small = sum_most _ _ 4 45 c.sum.result (c.sum.ensures.runs tt) c.map.ensures.closure few (omega arith) (λ x r q k. search rules) in
    omega (arith, small)
