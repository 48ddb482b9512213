use Rattle.std.proofs.Common.{arith}
use Rattle.chains.proofs.Puts.{free_count_of, movable_free, placed, shorter, sound_again}
use Rattle.chains.proofs.Waiting.{placed_waits}
use Rattle.lines.proofs.store_line.StoreLineLine.put.Goals as goal

pub carry-requires : goal.carry-requires
carry-requires g c =
    let self = c.args.self.now in
    let count = free_count_of self.pool self.sound in
    movable_free self.pool self.sound c.args.note (omega arith) (omega arith)

pub invariant_of-self : goal.invariant_of-self
invariant_of-self g c =
    let self = c.args.self.now in
    let pool = c.carry.new.pool in
    let count = self.sound.counted in
    let less = shorter self.pool pool 64 c.args.note c.JOINS.result c.carry.ensures.moved in
    record { sound = sound_again self.pool pool _ _ self.sound c.carry.ensures.kept c.carry.ensures.sizes (omega arith) }

pub returns-clause-notes : goal.returns-clause-notes
returns-clause-notes g c =
    let self = c.args.self.now in
    let carry = c.carry in
    placed_waits c.JOINS.result c.args.note self.pool carry.new.pool (omega arith)
    (placed self.pool carry.new.pool 64 c.args.note c.JOINS.result carry.ensures.moved (omega arith) (omega arith))
