use Rattle.std.proofs.Common.{refl, arith, rules}
use Rattle.sheet.specs.Held.{held}
use Rattle.sheet.proofs.Facts.{sized_facts}
use Rattle.sheet.proofs.Held.{held_sound}
use Rattle.sheet_text.proofs.Rounds.{settled_over}
use Rattle.sheet_text.proofs.settle_over_queue.Goals as goal

pub returns : goal.returns
returns c =
    let s = c.args.sheet.now in
    let sizes = sized_facts (held s) (held_sound s).sized_right in
    let told = c.settle.ensures in
    settled_over (held s) _ _ _ _ _ _ _ _ _ (λ _. search rules) (λ _. search rules) (λ _ _. (refl, refl, refl)) c.settle.result told.did (told.settles c.requires.alike)
    (told.ready c.requires.alike (record {
      records_long = c.requires.records_long;
      marks_long = c.requires.marks_long;
      empty = c.new.ensures.empty;
      room = omega (arith, c.requires.slots_enough, c.new.ensures.size, sizes.entries_few);
    }))
