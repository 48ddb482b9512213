-- What the searches for the next turn find. Assumes nothing.
use Rattle.std.proofs.Common.{◌≡◌, ℕ, ◌<◌, ◌≤◌, true, List, is_some, Some, None, Option, MatchOption, ⊎_elim, arith, zero-le}
use Rattle.std.proofs.lemmas.Bool.{cases_lt}
use Rattle.line.specs.declared.Note.{Note}
use Rattle.records.specs.declared.record.Record.{Record}
use Rattle.records.specs.Records.{state}
use Rattle.sheet.specs.Graph.{Graph, parcels}
use Rattle.protocol.specs.Runs.{NoIdleBelow}
use Rattle.rounds.specs.Next.{Idle, Store}

module _ {K : Type 0} (t : Graph K) where
  -- a search of the parcels from one on finds the lowest idle one, if none below is idle
  pub idle_found : (rs : List Record) (r : Option ℕ) (from many : ℕ) → NoIdleBelow rs from → many ≡ parcels t
      → MatchOption r ((u : ℕ) → from ≤ u → u < many → state rs u ≡ 0 → ⊥) (λ u. (from ≤ u) × (u < many) × (state rs u ≡ 0) × ((v : ℕ) → from ≤ v → v < u → state rs v ≡ 0 → ⊥))
      → Idle t rs r
  idle_found rs None from many busy is none = λ v below. ⊎_elim (busy v) (λ on. none v on (omega (arith, below, is))) (cases_lt v from)
  idle_found rs (Some u) from many busy is some = (omega (arith, some.1, is), some.2, λ v less. ⊎_elim (busy v) (λ on. some.3 v on less) (cases_lt v from))

  -- a search of all stores finds the lowest with a note
  pub store_found : (chosen : ℕ → Option Note) (r : Option ℕ) (many : ℕ) → many ≡ t.limit
      → MatchOption r ((s : ℕ) → 0 ≤ s → s < many → chosen s ≡ None) (λ s. (0 ≤ s) × (s < many) × (is_some (chosen s) ≡ true) × ((v : ℕ) → 0 ≤ v → v < s → chosen v ≡ None))
      → Store t chosen r
  store_found chosen None many is none = λ s below. none s zero-le (omega (arith, below, is))
  store_found chosen (Some s) many is some = (omega (arith, some.1, is), some.2, λ v less. some.3 v zero-le less)
