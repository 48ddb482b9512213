use Rattle.std.proofs.Common.{refl}
use Rattle.sheet.specs.Held.{held}
use Rattle.sheet.proofs.Held.{held_sound}
use Rattle.protocol.proofs.Laws.{law_of_rounds}
use Rattle.round.specs.Seen.{world}
use Rattle.round.proofs.Ended.{not_closable}
use Rattle.round.proofs.closing.close.Goals as goal

pub returns-in-Ok-clause-law : goal.returns-in-Ok-clause-law
returns-in-Ok-clause-law g c =
    let s = c.args.sheet.now in
    λ calls alike after. law_of_rounds g.K.Ranking.atleast g.met.K.Ranking.lawful (held s) (held_sound s) alike after (g.L.Line.lawful c.args.line.now)

pub returns-in-Err-clause-answer : goal.returns-in-Err-clause-answer
returns-in-Err-clause-answer g c =
    let l = g.L.Line in
    let w = world l.waiting l.capacity l.chosen c.args.round c.args.records.now c.args.marks.now c.args.line.now in
    (refl, c.in-Err.ensures, not_closable (held c.args.sheet.now) w c.in-Err.ensures)

pub returns-in-Err-clause-law : goal.returns-in-Err-clause-law
returns-in-Err-clause-law g c =
    let s = c.args.sheet.now in
    λ calls alike after. law_of_rounds g.K.Ranking.atleast g.met.K.Ranking.lawful (held s) (held_sound s) alike after (g.L.Line.lawful c.args.line.now)
