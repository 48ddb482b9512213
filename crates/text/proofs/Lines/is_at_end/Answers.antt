use Rattle.std.proofs.Common.{◌≡◌, length, sym, ap, ◌∙◌, arith, length-drop, rules}
use Rattle.std.proofs.lemmas.List.{drop_all}
use Rattle.std.proofs.lemmas.Bool.Decides.{Decides-eqb, Decides-like}
use Rattle.text.proofs.Lines.is_at_end.Goals as goal

pub returns : goal.returns
returns c =
    let text = c.args.self.now.text.now in
    let pos = c.args.self.now.pos in
    let within = c.args.self.now.within in
    Decides-like {P = pos ≡ length text} _
    (λ e. drop_all pos text (omega arith))
    (λ e. let none = sym (length-drop pos text) ∙ ap length e in omega arith)
    (search (rules, Decides-eqb))
