-- What the calls of a line answer, and what waits after them. Assumes nothing.
use Rattle.std.specs.Prelude.{◌≡◌, ℕ, cond, List, ◌∷◌, length, Some, None, Ok, Err, Option, Result, nat_le, nat_lt}
use Rattle.std.specs.List.Sorted.{IsPermutation}
use Rattle.faults.specs.declared.Refusal.{Refusal}
use Rattle.faults.specs.declared.Refusal.TheVariants.{NoStore, NoRoom}
use Rattle.line.specs.declared.Note.{Note}

-- a note for no store is refused first, then one that finds no free place
abbrev pub put_answer : Note → List Note → ℕ → Result (Unit {0}) (Refusal × ℕ)
put_answer note notes capacity =
    cond (nat_le note.store 63) (cond (nat_lt (length notes) capacity) (Ok tt) (Err (NoRoom, note.sender))) (Err (NoStore, note.store))

-- after a put: the note waits once more, or the line is as it was
abbrev pub Put : {L : Type 0} → Result (Unit {0}) (Refusal × ℕ) → Note → (L → List Note) → L → L → Type 0
Put (Ok _) note waiting old new = IsPermutation (note ∷ waiting old) (waiting new)
Put (Err _) note waiting old new = new ≡ old

-- after a take: the note waits once less, or the line is as it was
abbrev pub Taken : {L : Type 0} → Option Note → (L → List Note) → L → L → Type 0
Taken (Some note) waiting old new = IsPermutation (note ∷ waiting new) (waiting old)
Taken None waiting old new = new ≡ old
