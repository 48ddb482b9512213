use Rattle.std.proofs.Common.{ℕ, length, sum_by, sym, ap, ◌∙◌, rules, arith}
use Rattle.std.specs.List.{range_with_len}
use Rattle.std.proofs.lemmas.Iterator.{YieldsList-from_range, YieldsList-from_map}
use Rattle.std.proofs.lemmas.Iterator.Adapters.{fits_from_length}
use Rattle.std.proofs.lemmas.Iterator.Consumers.{sum_by_from_yields_List}
use Rattle.std.proofs.lemmas.List.Concat.{length-flat_map}
use Rattle.sheet.specs.Graph.{parcels}
use Rattle.sheet.specs.Held.{held}
use Rattle.sheet.proofs.Facts.{sized_facts}
use Rattle.matching.specs.Pairs.{Pair}
use Rattle.records.specs.Listed.{lower_pairs}
use Rattle.results.specs.Text.{pair_line}
use Rattle.results.proofs.Pairs.{share, shares_summed}
use Rattle.results.proofs.Sums.{range_at_most, sum_most}
use Rattle.results.proofs.printing.pairs_length.Goals as goal

pub sum-requires-clause-fits : goal.sum-requires-clause-fits
sum-requires-clause-fits g c =
    let s = c.args.ledger.sheet.now in
    let n = c.parcel_count.result in
    let few = range_at_most n 1024 (cc) (omega (arith, (sized_facts (held s) s.sizes).parcels_few, c.parcel_count.ensures)) in
    fits_from_length _ _ 1024 _ few c.map.ensures.closure (omega arith) (λ x r q k. search rules)

pub returns-clause-value : goal.returns-clause-value
returns-clause-value g c =
    let t = held c.args.ledger.sheet.now in
    let rs = c.args.ledger.records.now in
    let n = c.parcel_count.result in
    let long : Pair → ℕ = λ p. length (pair_line p) in
    let shares = sum_by_from_yields_List (share t rs long) (range_with_len 0 n) c.map.result c.sum.result c.sum.ensures.ran
    (YieldsList-from_map _ (share t rs long) (YieldsList-from_range 0 n n (cc) (omega arith)) c.map.ensures.closure (λ x r q k. search rules)) in
    shares ∙ ap (λ k. sum_by (share t rs long) (range_with_len 0 k)) c.parcel_count.ensures ∙ shares_summed t rs long (parcels t) ∙ sym (length-flat_map pair_line (lower_pairs t rs))

pub returns-clause-bound : goal.returns-clause-bound
returns-clause-bound g c =
    let s = c.args.ledger.sheet.now in
    let n = c.parcel_count.result in
    let few = range_at_most n 1024 (cc) (omega (arith, (sized_facts (held s) s.sizes).parcels_few, c.parcel_count.ensures)) in
    let small = sum_most _ _ 1024 45057 c.sum.result (c.sum.ensures.runs tt) c.map.ensures.closure few (omega arith) (λ x r q k. search rules) in
    omega (arith, small)
