use Rattle.std.proofs.Common.{ℕ, ◌≤◌, ◌^◌, None, false, eqb, get_or, sym, arith, ◌≡◌, rules, ◌∙◌}
use Rattle.std.proofs.lemmas.Bool.{ne_eqb}
use Rattle.sheet.proofs.Places.{place_none}
use Rattle.sheet.proofs.tables.find.Goals as goal

pub returns-in_err-ok : goal.returns-in_err-ok
returns-in_err-ok c =
    let row = c.args.row in
    let wide : 2 ^ 32 ≤ c.args.v = search rules in
    let is : c.from_residual.result ≡ None = search rules in
    let nowhere : (i : ℕ) → eqb (get_or c.args.others.now i 0) c.args.v ≡ false = λ i. ne_eqb (get_or c.args.others.now i 0) c.args.v (λ e. omega (arith, c.type_inv.others i, wide, e)) in
    is ∙ sym (place_none c.args.others.now c.args.v nowhere row.start row.end c.requires.0)
