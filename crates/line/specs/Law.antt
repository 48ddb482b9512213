-- What every line keeps at all times. Assumes nothing.
use Rattle.std.specs.Prelude.{◌≡◌, ℕ, ◌≤◌, List, length, Some, None, Option, ◌≢◌}
use Rattle.std.specs.List.{ContainsAt, AllByRecursion}
use Rattle.line.specs.declared.Note.{Note}

-- of these notes, what a store may be handed: one of its own, and nothing exactly if there is none
abbrev pub Choice : List Note → ℕ → Option Note → Type 0
Choice notes s None = AllByRecursion (λ n. n.store ≢ s) notes
Choice notes s (Some n) = ContainsAt notes n × (n.store ≡ s)

-- a line holds no more notes than its capacity, which is at most 16,384, and none for a store above 63; what it would hand a store is a choice
pub record Lawful (waiting : List Note) (capacity : ℕ) (chosen : ℕ → Option Note) : Type 0 where
  pub within : length waiting ≤ capacity
  pub limit : capacity ≤ 16384
  pub stores : AllByRecursion (λ n. n.store ≤ 63) waiting
  pub choice : (s : ℕ) → Choice waiting s (chosen s)
