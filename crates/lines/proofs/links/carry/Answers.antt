use Rattle.std.proofs.Common.{arith}
use Rattle.chains.proofs.Moves.{back_carried, front_carried, tail_within}
use Rattle.lines.proofs.links.carry.Goals as goal

pub push_back-requires-clause-last_within : goal.push_back-requires-clause-last_within
push_back-requires-clause-last_within c =
    let pop = c.pop-place in
    tail_within c.args.pool.now c.args.from c.args.note c.requires pop.new.pool pop.result pop.ensures.place pop.ensures.slots pop.ensures.heads pop.ensures.tails pop.ensures.sizes

pub returns-in-Front : goal.returns-in-Front
returns-in-Front c =
    let pop = c.pop-place in
    let push = c.push_front in
    let carried = front_carried c.args.pool.now c.args.from c.args.note c.requires pop.new.pool pop.result pop.ensures.place pop.ensures.slots pop.ensures.heads pop.ensures.tails pop.ensures.sizes
    push.new.pool push.ensures.sizes.1 push.ensures.slots push.ensures.heads push.ensures.tails c.args.end c.in-Front.is in
    record { kept = carried.0; moved = carried.1; sizes = (omega arith, omega arith) }

pub returns-in-Back : goal.returns-in-Back
returns-in-Back c =
    let pop = c.pop-place in
    let push = c.push_back in
    let carried = back_carried c.args.pool.now c.args.from c.args.note c.requires pop.new.pool pop.result pop.ensures.place pop.ensures.slots pop.ensures.heads pop.ensures.tails pop.ensures.sizes
    push.new.pool push.ensures.sizes.1 4294967295 (omega arith) push.ensures.slots push.ensures.heads push.ensures.tails c.args.end c.in-Back.is in
    record { kept = carried.0; moved = carried.1; sizes = (omega arith, omega arith) }
