use Rattle.std.proofs.Common.{arith}
use Rattle.chains.proofs.Puts.{free_count_of}
use Rattle.lines.proofs.store_line.StoreLineLine.free.Goals as goal

pub returns : goal.returns
returns g c =
    let self = c.args.self.now in
    let count = free_count_of self.pool self.sound in
    omega arith
