-- The note that a line hands a store is for that store. Assumes nothing.
use Rattle.std.proofs.Common.{◌≡◌, ℕ, List, Some, Option, subst}
use Rattle.line.specs.declared.Note.{Note}
use Rattle.line.specs.Law.{Lawful, Choice}

pub handed_store : (waiting : List Note) (capacity : ℕ) (chosen : ℕ → Option Note) → Lawful waiting capacity chosen → (s : ℕ) (n : Note) → chosen s ≡ Some n → n.store ≡ s
handed_store waiting capacity chosen law s n e = (subst (Choice waiting s) e (law.choice s)).1
