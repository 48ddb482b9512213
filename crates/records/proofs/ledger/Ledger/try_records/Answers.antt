use Rattle.std.proofs.Common.{◌≡◌, length, subst, arith}
use Rattle.sheet.specs.Graph.{parcels}
use Rattle.sheet.specs.View.{graph}
use Rattle.records.specs.Right.{Refused, wrong_length, strays}
use Rattle.records.proofs.ledger.Ledger.try_records.Goals as goal

pub returns-then-self-tables : goal.returns-then-self-tables
returns-then-self-tables g c =
    let rs = c.args.self.records.now in
    subst (λ tables. Refused (graph tables) rs 12 0) c.tables.ensures (wrong_length (λ e. omega (arith, c.if-self-tables.true)))

pub returns-in-Some : goal.returns-in-Some
returns-in-Some g c =
    let rs = c.args.self.records.now in
    strays (subst (λ tables. length rs ≡ parcels (graph tables)) c.tables.ensures (omega (arith, c.if-self-tables.false))) c.in-Some.ensures
