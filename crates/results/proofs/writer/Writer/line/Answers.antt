use Rattle.std.proofs.Common.{◌≡◌, ℕ, ◌<◌, List, [], ◌∷◌, ◌++◌, length, get_or, take, sym, ap, ◌∙◌, subst, arith}
use Rattle.std.proofs.lemmas.List.{length-append, take_all}
use Rattle.results.specs.declared.writer.Writer.{Writer}
use Rattle.results.specs.Text.{field, line}
use Rattle.results.specs.Writing.{RoomFor, Wrote}
use Rattle.results.proofs.Lines.{fields, line_push, fields_more, fields_fit}
use Rattle.results.proofs.Put.{room_left, wrote_more}
use Rattle.results.proofs.writer.Writer.line.Goals as goal

-- the last field comes after the others
whole : (ns others : List ℕ) (last : ℕ) → ns ≡ others ++ last ∷ [] → line ns ≡ fields others ++ field last 10
whole ns others last is = ap line is ∙ line_push others last

-- a field before the last has room
ahead : (w : Writer) (ns others : List ℕ) (last i : ℕ) → ns ≡ others ++ last ∷ [] → i < length others → RoomFor w (line ns) → RoomFor w (fields (take i others) ++ field (get_or others i 0) 44)
ahead w ns others last i is inside room =
    omega (arith, room, ap length (whole ns others last is), length-append (fields others) (field last 10), fields_fit others i inside, length-append (fields (take i others)) (field (get_or others i 0) 44))

pub field-requires : goal.field-requires
field-requires c =
    let others = c.in-Some.others.now in
    let i = c.loop-n.n-index in
    let room = ahead c.args.self.now c.args.numbers.now others c.in-Some.last.now i c.in-Some.ensures.cases.0 c.loop-n-test.true c.requires in
    room_left c.args.self.now c.loop-n.self (fields (take i others)) (field (get_or others i 0) 44) c.loop-n.invariant room

pub loop-n-preserved : goal.loop-n-preserved
loop-n-preserved c =
    let others = c.in-Some.others.now in
    let i = c.loop-n.n-index in
    let room = ahead c.args.self.now c.args.numbers.now others c.in-Some.last.now i c.in-Some.ensures.cases.0 c.loop-n-test.true c.requires in
    subst (Wrote c.args.self.now c.field.new.self) (sym (fields_more others i c.loop-n-test.true))
    (wrote_more c.args.self.now c.loop-n.self (fields (take i others)) (field (get_or others i 0) 44) c.loop-n.invariant room c.field.new.self c.field.ensures)

pub field-requires-2 : goal.field-requires-2
field-requires-2 c =
    let others = c.in-Some.others.now in
    let last = c.in-Some.last.now in
    let wrote = subst (λ ns. Wrote c.args.self.now c.loop-n.self (fields ns)) (take_all c.loop-n.n-index others c.loop-n-test.false) c.loop-n.invariant in
    room_left c.args.self.now c.loop-n.self (fields others) (field last 10) wrote (subst (RoomFor c.args.self.now) (whole c.args.numbers.now others last c.in-Some.ensures.cases.0) c.requires)

pub returns : goal.returns
returns c =
    let others = c.in-Some.others.now in
    let last = c.in-Some.last.now in
    let all = whole c.args.numbers.now others last c.in-Some.ensures.cases.0 in
    let wrote = subst (λ ns. Wrote c.args.self.now c.loop-n.self (fields ns)) (take_all c.loop-n.n-index others c.loop-n-test.false) c.loop-n.invariant in
    subst (Wrote c.args.self.now c.field-2.new.self) (sym all)
    (wrote_more c.args.self.now c.loop-n.self (fields others) (field last 10) wrote (subst (RoomFor c.args.self.now) all c.requires) c.field-2.new.self c.field-2.ensures)
