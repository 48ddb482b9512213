use Rattle.std.proofs.Common.{◌≡◌, rules}
use Rattle.std.proofs.lemmas.Iterator.{first_from_Range}
use Rattle.records.specs.Records.{state}
use Rattle.sheet.specs.Held.{held}
use Rattle.rounds.proofs.Finding.{idle_found}
use Rattle.rounds.proofs.lowest_idle.Goals as goal

pub returns : goal.returns
returns g c =
    let rs = c.args.ledger.records.now in
    idle_found (held c.args.ledger.sheet.now) rs c.find.result c.args.from c.parcel_count.result c.requires.busy c.parcel_count.ensures
    (first_from_Range _ _ _ _ (λ u. state rs u ≡ 0) (λ u. state rs u ≡ 0 → ⊥) c.find.ensures.ran
    (λ x q k. search rules)
    (λ x q k. (search rules, search rules)))
