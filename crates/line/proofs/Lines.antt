-- What code over any kind of line wants of its calls. Assumes nothing.
use Rattle.std.proofs.Common.{◌≡◌, ℕ, ◌+◌, ◌<◌, ◌≤◌, true, cond, List, ◌∷◌, length, is_some, is_ok, Some, None, Ok, Err, Option, Result, sym, refl, ap, arith}
use Rattle.std.specs.List.{ContainsAt}
use Rattle.std.specs.List.Sorted.{IsPermutation}
use Rattle.std.proofs.ByRecursion.{all-has}
use Rattle.std.proofs.lemmas.List.Sorted.{length_permutation}
use Rattle.std.proofs.lemmas.Bool.Decides.{nat_tests}
use Rattle.faults.specs.declared.Refusal.{Refusal}
use Rattle.line.specs.declared.Note.{Note}
use Rattle.line.specs.Law.{Lawful, Choice}
use Rattle.line.specs.Calls.{put_answer, Put, Taken}

-- a put was accepted: the note is for a store, and a place was free
pub accepted_store : (note : Note) (notes : List Note) (capacity : ℕ) → Ok tt ≡ put_answer note notes capacity → note.store ≤ 63
accepted_store note notes capacity e = grind (arith, nat_tests)

pub accepted_room : (note : Note) (notes : List Note) (capacity : ℕ) → Ok tt ≡ put_answer note notes capacity → length notes < capacity
accepted_room note notes capacity e = grind (arith, nat_tests)

-- the converse: such a note is taken
pub accepts : (note : Note) (notes : List Note) (capacity : ℕ) → note.store ≤ 63 → length notes < capacity → put_answer note notes capacity ≡ Ok tt
accepts note notes capacity s r = grind (arith, nat_tests)

-- one note more
pub one_more : {note : Note} {old new : List Note} → IsPermutation (note ∷ old) new → length new ≡ length old + 1
one_more {note} {old} {new} s = omega (arith, length_permutation (note ∷ old) new s)

-- the same by what a put and a take answered
pub put_counts : {L : Type 0} (r : Result (Unit {0}) (Refusal × ℕ)) (note : Note) (waiting : L → List Note) (old new : L) → Put r note waiting old new → length (waiting new) ≡ length (waiting old) + cond (is_ok r) 1 0
put_counts (Ok _) note waiting old new p = one_more p
put_counts (Err _) note waiting old new p = omega (arith, ap (λ l. length (waiting l)) p)

pub take_counts : {L : Type 0} (r : Option Note) (waiting : L → List Note) (old new : L) → Taken r waiting old new → length (waiting new) + cond (is_some r) 1 0 ≡ length (waiting old)
take_counts (Some _) waiting old new p = sym (one_more p)
take_counts None waiting old new p = omega (arith, ap (λ l. length (waiting l)) p)

-- a store for which a note waits is handed one
pub handed : {notes : List Note} {capacity : ℕ} {chosen : ℕ → Option Note} → Lawful notes capacity chosen → (note : Note) → ContainsAt notes note → is_some (chosen note.store) ≡ true
handed {notes} {capacity} {chosen} law note has = by_choice (chosen note.store) (law.choice note.store)
  where
    by_choice : (o : Option Note) → Choice notes note.store o → is_some o ≡ true
    by_choice None all = absurd (all-has (λ n. n.store ≡ note.store → ⊥) notes note all has refl)
    by_choice (Some n) _ = refl
