-- What holds of the counts of a round that is not counted as wrong. Assumes nothing.
use Rattle.std.specs.Prelude.{◌≡◌, ◌+◌, ◌≤◌}
use Rattle.all_orders.specs.declared.counts.Expected.{Expected}
use Rattle.all_orders.specs.declared.counts.Settled.{Settled}

-- pairs, lone parcels and cents are the definition's; each of the four parcels and each note took one turn; and there
-- were no more notes than entries
pub record CountsRight (x : Expected) (y : Settled) : Type 0 where
  pub pairs : y.course.totals.tally.pairs ≡ x.pairs
  pub lone : y.course.totals.tally.lone ≡ x.lone
  pub cents : y.cents ≡ x.cents
  pub turns : y.course.totals.turns ≡ y.course.totals.sent + 4
  pub notes : y.course.totals.sent ≤ x.entries
