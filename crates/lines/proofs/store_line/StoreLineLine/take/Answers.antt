use Rattle.std.proofs.Common.{refl, arith}
use Rattle.chains.specs.declared.End.TheVariants.{Front}
use Rattle.chains.specs.Walk.{no_note}
use Rattle.chains.proofs.Puts.{free_count_of, has_store, longer, movable_taken, removed, sound_again}
use Rattle.chains.proofs.Waiting.{has_some, taken_is, taken_waits}
use Rattle.lines.proofs.store_line.StoreLineLine.take.Goals as goal

pub carry-requires : goal.carry-requires
carry-requires g c =
    let self = c.args.self.now in
    movable_taken self.pool c.args.store (has_some _ _ c.in_ok-note.ensures) self.sound no_note refl

pub overflow_add-pool : goal.overflow_add-pool
overflow_add-pool g c =
    let self = c.args.self.now in
    let count = free_count_of self.pool self.sound in
    omega arith

pub invariant_of-self : goal.invariant_of-self
invariant_of-self g c =
    let self = c.args.self.now in
    let pool = c.carry.new.pool in
    let count = self.sound.counted in
    let more = longer self.pool pool c.args.store no_note Front c.carry.ensures.moved in
    record { sound = sound_again self.pool pool _ _ self.sound c.carry.ensures.kept c.carry.ensures.sizes (omega arith) }

pub returns-clause-notes : goal.returns-clause-notes
returns-clause-notes g c =
    let self = c.args.self.now in
    let carry = c.carry in
    let note = c.in_ok-note.note in
    let known = has_store self.pool c.args.store (has_some _ _ c.in_ok-note.ensures) in
    taken_waits note c.args.store self.pool carry.new.pool
    (taken_is note c.args.store self.pool carry.new.pool c.in_ok-note.ensures (removed self.pool carry.new.pool c.args.store no_note Front carry.ensures.moved known refl))
