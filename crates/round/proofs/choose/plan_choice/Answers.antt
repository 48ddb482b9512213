use Rattle.std.proofs.Common.{arith}
use Rattle.sheet.specs.Held.{held}
use Rattle.sheet.proofs.Held.{held_sound}
use Rattle.round.proofs.Sizes.{others_few}
use Rattle.round.proofs.choose.plan_choice.Goals as goal

pub overflow_add-result : goal.overflow_add-result
overflow_add-result g c =
    let s = c.args.sheet.now in
    omega (arith, c.count_open_others.ensures, others_few (held s) (held_sound s) c.args.marks.now c.args.u c.in-Some.p c.requires.parcel)
