use Rattle.std.proofs.Common.{◌≤◌, sym, subst, rules}
use Rattle.line.specs.declared.Note.{Note}
use Rattle.sheet.specs.Held.{held}
use Rattle.sheet.proofs.Held.{held_sound}
use Rattle.round.proofs.Sizes.{store_low}
use Rattle.round.proofs.Sent.{sent}
use Rattle.round.proofs.choose.send.Goals as goal

-- what the line answered is found and not named: where nothing is put on it, this fails for want of the fact
pub returns-clause-notes : goal.returns-clause-notes
returns-clause-notes g c =
    let s = c.args.sheet.now in
    let low : c.note_along.result.store ≤ 63 = subst (λ (n : Note). n.store ≤ 63) (sym c.note_along.ensures) (store_low (held s) (held_sound s) c.args.u c.args.p c.requires.within) in
    search (rules, sent, low)
