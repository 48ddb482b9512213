-- The states of parcels, and the number of each. Assumes nothing.
use Rattle.std.specs.Prelude.{◌≡◌, ℕ, ◌<◌, Result, MatchResult}
use Rattle.records.specs.declared.record.State.{State}
use Rattle.records.specs.declared.record.State.TheVariants.{Idle, Waits, Paired, Lone}
use Rattle.records.specs.declared.record.UnknownState.{UnknownState}

-- the number that stands for a state
abbrev pub code : State → ℕ
code Idle = 0
code Waits = 1
code Paired = 2
code Lone = 3

-- the state with this number, or none where no state has it
abbrev pub Decodes : ℕ → Result State UnknownState → Type 0
Decodes n r = MatchResult r (λ state. code state ≡ n) (λ e. (e.0 ≡ n) × (3 < n))
