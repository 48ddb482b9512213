use Rattle.sheet.specs.Held.{held}
use Rattle.results.proofs.Chosen.{found_up, never_none, share_read}
use Rattle.results.proofs.worth_of.cents_of.Goals as goal

pub returns-in-Some : goal.returns-in-Some
returns-in-Some c =
    let s = c.args.ledger.sheet.now in
    let rs = c.args.ledger.records.now in
    let u = c.args.u in
    share_read s rs u c.in-Some.place c.tables.result c.tables.ensures (found_up (held s) rs u c.partner_above.result c.partner_above.ensures c.if-is_none.ensures) c.in-Some.ensures

pub returns-in-None : goal.returns-in-None
returns-in-None c =
    let s = c.args.ledger.sheet.now in
    let rs = c.args.ledger.records.now in
    let u = c.args.u in
    absurd (never_none s rs u (found_up (held s) rs u c.partner_above.result c.partner_above.ensures c.if-is_none.ensures) c.in-None.ensures)
