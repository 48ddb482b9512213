use Rattle.std.proofs.Common.{◌≡◌, Err, refl, rules, ◌∙◌, ap}
use Rattle.sheet.specs.View.{graph}
use Rattle.sheet.proofs.Verdict.{refused_not_passed}
use Rattle.sheet.proofs.checking.check.Goals as goal

pub returns-in_err-new : goal.returns-in_err-new
returns-in_err-new g c =
    let refused = c.in_err-new.ensures in
    let is : c.from_residual.result ≡ Err c.in_err-new.field-0.0 = search rules in
    rw is (refused, refused_not_passed g.K.Ranking.atleast (graph c.args.tables) refused, refl)

pub returns-in_err-rows : goal.returns-in_err-rows
returns-in_err-rows g c =
    let refused = rw c.in_ok-new.ensures at c.in_err-rows.ensures in
    let is : c.from_residual-in_err-rows.result ≡ Err c.in_err-rows.field-0.0 = search rules in
    rw is (refused, refused_not_passed g.K.Ranking.atleast (graph c.args.tables) refused, refl)

pub returns-in_err-sheet : goal.returns-in_err-sheet
returns-in_err-sheet g c =
    let same = ap (λ f. f.tables) c.in_ok-rows.ensures ∙ c.in_ok-new.ensures in
    let refused = rw same at c.in_err-sheet.ensures in
    let is : c.from_residual-in_err-sheet.result ≡ Err c.in_err-sheet.field-0.0 = search rules in
    rw is (refused, refused_not_passed g.K.Ranking.atleast (graph c.args.tables) refused, refl)
