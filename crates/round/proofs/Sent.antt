-- A note that a line takes lies on it. Assumes nothing.
use Rattle.std.proofs.Common.{◌≡◌, ℕ, ◌<◌, ◌≤◌, List, ◌∷◌, length, ◌∙◌, Result, subst}
use Rattle.std.specs.List.Sorted.{IsPermutation}
use Rattle.faults.specs.declared.Refusal.{Refusal}
use Rattle.line.specs.declared.Note.{Note}
use Rattle.line.specs.Calls.{put_answer, Put}
use Rattle.line.proofs.Lines.{accepts}

-- where the store is one of the 64 and there is room, putting it is accepted, and it lies on the line then
pub sent : {S : Type 0} (waiting : S → List Note) (capacity : ℕ) (note : Note) (r : Result (Unit {0}) (Refusal × ℕ)) (old new : S) → note.store ≤ 63 → length (waiting old) < capacity → r ≡ put_answer note (waiting old) capacity → Put r note waiting old new → IsPermutation (note ∷ waiting old) (waiting new)
sent waiting capacity note r old new low room answer put = subst (λ x. Put x note waiting old new) (answer ∙ accepts note (waiting old) capacity low room) put
