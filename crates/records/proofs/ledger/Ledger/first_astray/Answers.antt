use Rattle.std.proofs.Common.{◌≡◌, true, false, rules}
use Rattle.std.proofs.lemmas.Iterator.{first_from_Range}
use Rattle.sheet.specs.Held.{held}
use Rattle.records.specs.Records.{astray}
use Rattle.records.proofs.Refusals.{lowest_found}
use Rattle.records.proofs.ledger.Ledger.first_astray.Goals as goal

pub returns : goal.returns
returns g c =
    let t = held c.args.self.sheet.now in
    let rs = c.args.self.records.now in
    lowest_found t rs c.find.result c.requires.long
    (first_from_Range _ _ _ _ (λ u. astray t rs u ≡ true) (λ u. astray t rs u ≡ false) c.find.ensures.ran
    (λ x q k. search rules)
    (λ x q k. (search rules, search rules)))
