-- What the recorded pairs of a cents sheet are worth. Assumes nothing.
use Rattle.std.specs.Prelude.{◌≡◌, ℕ, List, sum_by}
use Rattle.ranking.specs.declared.Cents.{Cents}
use Rattle.matching.specs.Pairs.{Pair}
use Rattle.pairing.specs.Theorems.{cents_of, pair_cents}
use Rattle.sheet.specs.Graph.{Graph, key}
use Rattle.records.specs.declared.record.Record.{Record}
use Rattle.records.specs.Records.{chosen_place}
use Rattle.records.specs.Listed.{lower_pairs}
use Rattle.records.specs.Right.{Right}

-- the cents at the entry that the lower parcel of a pair chose
abbrev pub chosen_cents : Graph Cents → List Record → Pair → ℕ
chosen_cents t rs p = cents_of (key t (chosen_place t rs p.lo))

-- the sum of the recorded pairs' cents: each as its lower parcel chose it, which is what the pair has on the sheet
pub record Worth (t : Graph Cents) (rs : List Record) (sum : ℕ) : Type 0 where
  pub right : Right t rs
  pub chosen : sum ≡ sum_by (chosen_cents t rs) (lower_pairs t rs)
  pub pairs : sum ≡ sum_by (pair_cents t) (lower_pairs t rs)
