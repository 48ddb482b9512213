use Rattle.std.proofs.Common.{◌≡◌, ◌<◌, ◌⊎◌}
use Rattle.ranking.specs.Kinds.{cents_atleast}
use Rattle.sheet.specs.Held.{held}
use Rattle.outright.specs.Outright.{Done}
use Rattle.stages.proofs.again.pair_again.Given as goal

abbrev pub invariant-loop : goal.invariant-loop
invariant-loop l =
    ((l.counter ≡ 0) × (l.records ≡ l.initial.records) × (l.worklist ≡ l.initial.worklist))
    ⊎ ((0 < l.counter) × Done cents_atleast (held l.sheet) l.initial.records l.initial.worklist l.records)
