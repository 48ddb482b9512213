use Rattle.std.proofs.Common.{◌≡◌, ℕ, sum_by, ap, ◌∙◌, rules, arith}
use Rattle.std.specs.List.{range_with_len}
use Rattle.std.proofs.lemmas.Iterator.{YieldsList-from_range, YieldsList-from_map}
use Rattle.std.proofs.lemmas.Iterator.Adapters.{fits_from_length}
use Rattle.std.proofs.lemmas.Iterator.Consumers.{sum_by_from_yields_List}
use Rattle.sheet.specs.Graph.{parcels}
use Rattle.sheet.specs.Held.{held}
use Rattle.sheet.proofs.Facts.{sized_facts}
use Rattle.sheet.proofs.Held.{held_sound}
use Rattle.matching.specs.Pairs.{Pair}
use Rattle.records.specs.Listed.{lower_pairs}
use Rattle.results.specs.Worth.{chosen_cents}
use Rattle.results.proofs.Chosen.{chosen_is_pair}
use Rattle.results.proofs.Pairs.{share, shares_summed}
use Rattle.results.proofs.Sums.{range_at_most}
use Rattle.results.proofs.worth_of.worth.Goals as goal

pub sum-requires-clause-fits : goal.sum-requires-clause-fits
sum-requires-clause-fits c =
    let s = c.args.ledger.sheet.now in
    let n = c.parcel_count.result in
    let few = range_at_most n 1024 (cc) (omega (arith, (sized_facts (held s) s.sizes).parcels_few, c.parcel_count.ensures)) in
    fits_from_length _ _ 1024 _ few c.map-shares.ensures.closure (omega arith) (λ x r q k. search rules)

pub returns : goal.returns
returns c =
    let s = c.args.ledger.sheet.now in
    let t = held s in
    let rs = c.args.ledger.records.now in
    let n = c.parcel_count.result in
    let cents : Pair → ℕ = chosen_cents t rs in
    let shares = sum_by_from_yields_List (share t rs cents) (range_with_len 0 n) c.map-shares.result c.sum.result c.sum.ensures.ran
    (YieldsList-from_map _ (share t rs cents) (YieldsList-from_range 0 n n (cc) (omega arith)) c.map-shares.ensures.closure (λ x r q k. search rules)) in
    let sum : c.sum.result ≡ sum_by (chosen_cents t rs) (lower_pairs t rs) = shares ∙ ap (λ k. sum_by (share t rs cents) (range_with_len 0 k)) c.parcel_count.ensures ∙ shares_summed t rs (chosen_cents t rs) (parcels t) in
    record { right = c.in_ok-try_records.ensures; chosen = sum; pairs = sum ∙ chosen_is_pair t rs (held_sound s) }
