use Rattle.std.proofs.Common.{◌≡◌, true, is_some, None, ap, rules}
use Rattle.std.proofs.lemmas.Iterator.{first_from_Range}
use Rattle.sheet.specs.View.{graph}
use Rattle.sheet.specs.Held.{held}
use Rattle.rounds.proofs.Finding.{store_found}
use Rattle.rounds.proofs.lowest_store.Goals as goal

pub returns : goal.returns
returns g c =
    let chosen = g.L.Line.chosen c.args.line.now in
    store_found (held c.args.sheet.now) chosen c.find.result c.tables.result.store_count (ap (λ x. (graph x).limit) c.tables.ensures)
    (first_from_Range _ _ _ _ (λ s. is_some (chosen s) ≡ true) (λ s. chosen s ≡ None) c.find.ensures.ran
    (λ x q k. search rules)
    (λ x q k. (search rules, search rules)))
