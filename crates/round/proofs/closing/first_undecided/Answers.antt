use Rattle.std.proofs.Common.{◌≡◌, ◌⊎◌, rules}
use Rattle.std.proofs.lemmas.Iterator.{IsFirst-from_position, YieldsList-from_slice}
use Rattle.sheet.specs.Held.{held}
use Rattle.round.proofs.Ended.{undecided_found}
use Rattle.round.proofs.closing.first_undecided.Goals as goal

pub returns : goal.returns
returns g c =
    let rs = c.args.ledger.records.now in
    undecided_found (held c.args.ledger.sheet.now) rs c.position.result c.requires
    (IsFirst-from_position _ _ c.position.result (λ r. (r.state ≡ 0) ⊎ (r.state ≡ 1)) (λ r. (r.state ≡ 0 → ⊥) × (r.state ≡ 1 → ⊥)) c.position.ensures.ran (YieldsList-from_slice rs c.iter-records.ensures.rest)
    (λ x q k. search rules)
    (λ x q k. search rules))
