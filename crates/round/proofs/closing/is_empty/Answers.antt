use Rattle.std.proofs.Common.{length, ap, arith}
use Rattle.std.proofs.lemmas.List.{nil_from_length}
use Rattle.std.proofs.lemmas.Bool.{eqb-true, eq-eqb}
use Rattle.round.proofs.closing.is_empty.Goals as goal

pub returns : goal.returns
returns g c =
    let line = c.args.line.now in
    let l = g.L.Line in (
      λ same. let e = eqb-true c.free.result c.size.result same in nil_from_length (l.waiting line) (omega (arith, e, c.free.ensures, c.size.ensures, (l.lawful line).within)),
      λ none. let e = ap length none in eq-eqb c.free.result c.size.result (omega (arith, e, c.free.ensures, c.size.ensures)),
    )
