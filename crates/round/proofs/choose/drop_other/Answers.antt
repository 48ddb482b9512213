use Rattle.std.proofs.Common.{arith}
use Rattle.sheet.specs.Held.{held}
use Rattle.sheet.proofs.Held.{held_sound}
use Rattle.pairing.proofs.Entries.{place_below}
use Rattle.round.proofs.choose.drop_other.Goals as goal

pub other_open-requires : goal.other_open-requires
other_open-requires g c = let s = c.args.sheet.now in omega (arith, c.requires.long, place_below (held s) (held_sound s) c.args.u c.args.q c.requires.within)
