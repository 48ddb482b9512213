use Rattle.std.proofs.Common.{◌≡◌, length}
use Rattle.chains.proofs.Fresh.{Fresh}
use Rattle.lines.proofs.store_line.StoreLine.new.Given as goal

abbrev pub invariant-loop-place : goal.invariant-loop-place
invariant-loop-place g l = record {
  places : length l.pool.slots.now ≡ l.places;
  room : l.pool.room ≡ l.places;
  fresh : Fresh l.pool l.place;
}
