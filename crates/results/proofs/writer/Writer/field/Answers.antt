use Rattle.std.proofs.Common.{◌≡◌, [], ◌∷◌, decimal, ◌∙◌, subst}
use Rattle.results.specs.Writing.{Wrote}
use Rattle.results.proofs.Put.{wrote_more}
use Rattle.results.proofs.writer.Writer.field.Goals as goal

pub returns : goal.returns
returns c =
    let digits : c.as_bytes.result.now ≡ decimal c.args.n = c.as_bytes.ensures.value ∙ c.format.ensures.text in
    wrote_more c.args.self.now c.push.new.self (decimal c.args.n) (c.args.ending ∷ []) (subst (Wrote c.args.self.now c.push.new.self) digits c.push.ensures) c.requires c.byte.new.self c.byte.ensures
