use Rattle.std.proofs.Common.{ℕ, ◌<◌, List, [], ◌∷◌, ◌++◌, length, get_or, take, sym, subst, arith}
use Rattle.std.proofs.lemmas.List.{take_all, take_more, length-append, length-take-le}
use Rattle.results.specs.declared.writer.Writer.{Writer}
use Rattle.results.specs.Writing.{RoomFor, Wrote}
use Rattle.results.proofs.Put.{room_left, wrote_more}
use Rattle.results.proofs.writer.Writer.push.Goals as goal

-- a byte of them has room
ahead : (w : Writer) (bytes : List ℕ) (i : ℕ) → i < length bytes → RoomFor w bytes → RoomFor w (take i bytes ++ get_or bytes i 0 ∷ [])
ahead w bytes i inside room =
    omega (arith, room, inside, length-append (take i bytes) (get_or bytes i 0 ∷ []), length-take-le i bytes (omega (arith, inside)))

pub byte-requires : goal.byte-requires
byte-requires c =
    let bytes = c.args.bytes.now in
    let i = c.loop-byte.byte-index in
    let room = ahead c.args.self.now bytes i c.loop-byte-test.true c.requires in
    room_left c.args.self.now c.loop-byte.self (take i bytes) (get_or bytes i 0 ∷ []) c.loop-byte.invariant room

pub loop-byte-preserved : goal.loop-byte-preserved
loop-byte-preserved c =
    let bytes = c.args.bytes.now in
    let i = c.loop-byte.byte-index in
    let room = ahead c.args.self.now bytes i c.loop-byte-test.true c.requires in
    subst (Wrote c.args.self.now c.byte.new.self) (sym (take_more bytes i 0 c.loop-byte-test.true))
    (wrote_more c.args.self.now c.loop-byte.self (take i bytes) (get_or bytes i 0 ∷ []) c.loop-byte.invariant room c.byte.new.self c.byte.ensures)

pub returns : goal.returns
returns c = subst (Wrote c.args.self.now c.loop-byte.self) (take_all c.loop-byte.byte-index c.args.bytes.now c.loop-byte-test.false) c.loop-byte.invariant
