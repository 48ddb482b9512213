use Rattle.std.proofs.Common.{length, take, length-take, refl, subst, arith}
use Rattle.chains.proofs.Fresh.{Fresh, fresh_none, fresh_more, fresh_sound, fresh_empty}
use Rattle.lines.proofs.store_line.StoreLine.new.Goals as goal

pub loop-place-init : goal.loop-place-init
loop-place-init g c =
    let slots = take c.min-places.result c.args.buffer.now in
    let many = length-take c.min-places.result c.args.buffer.now in
    record {
      places = omega arith;
      room = refl;
      fresh = fresh_none slots (length slots) 4294967295 (omega arith);
    }

pub loop-place-preserved : goal.loop-place-preserved
loop-place-preserved g c =
    let l = c.loop-place in
    let push = c.push_front in
    record {
      places = omega arith;
      room = omega arith;
      fresh = fresh_more l.pool push.new.pool l.place (omega arith) l.invariant.fresh push.ensures.sizes.1 push.ensures.slots push.ensures.heads push.ensures.tails;
    }

pub invariant_of-result : goal.invariant_of-result
invariant_of-result g c =
    let pool = c.loop-place.pool in
    record { sound = fresh_sound pool (subst (λ i. Fresh pool i) (omega arith) c.loop-place.invariant.fresh) (omega arith) (omega arith) }

pub returns-clause-empty : goal.returns-clause-empty
returns-clause-empty g c =
    let pool = c.loop-place.pool in
    fresh_empty pool (subst (λ i. Fresh pool i) (omega arith) c.loop-place.invariant.fresh)
