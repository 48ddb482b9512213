use Rattle.std.proofs.Common.{◌≡◌, ◌+◌, option_map, rules, tests, ap, ◌∙◌, ◌==◌}
use Rattle.std.specs.List.{slice_range, position}
use Rattle.std.proofs.lemmas.Iterator.{YieldsList-from_slice}
use Rattle.std.proofs.lemmas.Iterator.Search.{position_from_yields_List}
use Rattle.sheet.proofs.Places.{place_position}
use Rattle.sheet.proofs.tables.find_number.Goals as goal

pub returns-clause-first : goal.returns-clause-first
returns-clause-first c =
    let xs = c.args.others.now in
    let row = c.args.row in
    let at : c.position.result ≡ position (λ x. x == c.args.v) (slice_range xs row.start row.end) = position_from_yields_List (λ x. x == c.args.v) _ _ c.position.result c.position.ensures.ran (YieldsList-from_slice (slice_range xs row.start row.end) cc) (λ x b q k. search (rules, tests)) in
    let mirrored : c.map.result ≡ option_map (λ i. row.start + i) c.position.result = search rules in
    mirrored ∙ ap (λ o. option_map (λ i. row.start + i) o) at ∙ place_position xs c.args.v row.start row.end c.requires.0 c.requires.1
