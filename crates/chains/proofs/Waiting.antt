-- The notes of all stores as the notes that wait on a line. Assumes nothing.
use Rattle.std.proofs.Common.{◌≡◌, ℕ, zero, suc, ◌<◌, ◌≤◌, true, ◌≢◌, List, [], ◌∷◌, ◌++◌, map, length, drop, Some, sym, refl, ap, ◌∙◌, subst, ⊎_elim, append_assoc, append-nil, arith}
use Rattle.std.specs.List.{ContainsAt, AllByRecursion, list_all}
use Rattle.std.specs.List.Sorted.{IsPermutation}
use Rattle.std.proofs.ByRecursion.{All-append, All-weaker, has_shuffled}
use Rattle.std.proofs.lemmas.List.Sorted.{IsPermutation-middle, IsPermutation-sym}
use Rattle.std.proofs.lemmas.Bool.{cases_eq, eqb-true, and_parts}
use Rattle.line.specs.declared.Note.{Note}
use Rattle.line.specs.Law.{Lawful, Choice}
use Rattle.line.proofs.Updated.{upd, upd_same, upd_other}
use Rattle.chains.specs.declared.End.{End}
use Rattle.chains.specs.declared.End.TheVariants.{Front, Back}
use Rattle.chains.specs.declared.Pool.{Pool}
use Rattle.chains.specs.declared.Slot.{Slot}
use Rattle.chains.specs.Gathered.{gathered}
use Rattle.chains.specs.Stores.{Sound, by_store, all_notes, capacity_of, front, Elsewhere, Placed, Removed}
use Rattle.chains.specs.Walk.{holds, chain}
use Rattle.chains.proofs.Linked.{note_at}
use Rattle.chains.proofs.Puts.{free_count_of, store_within, has_store}
use Rattle.chains.proofs.Gathered.{gathered_same}

-- ---- a note more

-- of all lists joined, the part before the note and the part behind it
record Split {X : Type 0} (x : X) (old new : List X) : Type 0 where
  before : List X
  behind : List X
  old_is : old ≡ before ++ behind
  new_is : new ≡ before ++ x ∷ behind

module _ {X : Type 0} (f g : ℕ → List X) (t : ℕ) (x : X) (a b : List X) (old-at : f t ≡ a ++ b) (new-at : g t ≡ a ++ x ∷ b) (others : (s : ℕ) → s ≢ t → g s ≡ f s) where
  split : (n : ℕ) → t < n → Split x (gathered f n) (gathered g n)
  unfolding gathered
  split zero h = absurd (omega arith)
  split (suc n) h =
      ⊎_elim
      (λ e. record {
        before = gathered f n ++ a;
        behind = b;
        old_is = ap (λ ys. gathered f n ++ ys) (ap f (sym e) ∙ old-at) ∙ sym (append_assoc (gathered f n) a b);
        new_is = ap (λ xs. xs ++ g n) (gathered_same g f n (λ s l. others s (λ i. omega arith))) ∙ ap (λ ys. gathered f n ++ ys) (ap g (sym e) ∙ new-at) ∙ sym (append_assoc (gathered f n) a (x ∷ b));
      })
      (λ ne. let rest = split n (omega arith) in record {
        before = rest.before;
        behind = rest.behind ++ f n;
        old_is = ap (λ xs. xs ++ f n) rest.old_is ∙ append_assoc rest.before rest.behind (f n);
        new_is = ap (λ xs. xs ++ g n) rest.new_is ∙ append_assoc rest.before (x ∷ rest.behind) (g n) ∙ ap (λ ys. rest.before ++ x ∷ (rest.behind ++ ys)) (others n (λ i. ne (sym i)));
      })
      (cases_eq t n)

  pub one_more : (n : ℕ) → t < n → IsPermutation (x ∷ gathered f n) (gathered g n)
  one_more n h =
      let s = split n h in
      subst (λ new. IsPermutation (x ∷ gathered f n) new) (sym s.new_is)
      (subst (λ old. IsPermutation (x ∷ old) (s.before ++ x ∷ s.behind)) (sym s.old_is) (IsPermutation-sym (s.before ++ x ∷ s.behind) (x ∷ (s.before ++ s.behind)) (IsPermutation-middle s.before x s.behind)))

-- ---- the calls of a pool

-- a note that was put waits once more
pub placed_waits : (end : End) (note : Note) (old new : Pool) → note.store ≤ 63 → Placed end note old new → IsPermutation (note ∷ all_notes old) (all_notes new)
placed_waits Front note old new known placed =
    one_more (by_store old) (by_store new) note.store note [] (by_store old note.store) refl placed.0 placed.1 64 (omega arith)
placed_waits Back note old new known placed =
    one_more (by_store old) (by_store new) note.store note (by_store old note.store) [] (sym (append-nil (by_store old note.store))) placed.0 placed.1 64 (omega arith)

pub has_some : (note : Note) (notes : List Note) → Some note ≡ front notes → 0 < length notes
has_some note [] e = absurd (let z : ◌≡◌ {A = ℕ} 0 1 = cc in omega arith)
has_some note (n ∷ ns) e = omega arith

-- the first note is gone, and was the one that was handed out
pub taken_is : (note : Note) (s : ℕ) (old new : Pool) → Some note ≡ front (by_store old s) → Removed s old new → (by_store old s ≡ note ∷ by_store new s) × Elsewhere s (by_store old) (by_store new)
taken_is note s old new has removed = (by_notes (by_store old s) has ∙ ap (λ ns. note ∷ ns) (sym removed.0), removed.1)
  where
    by_notes : (ns : List Note) → Some note ≡ front ns → ns ≡ note ∷ drop 1 ns
    by_notes [] e = let z : ◌≡◌ {A = ℕ} 0 1 = cc in absurd (omega arith)
    by_notes (n ∷ ns) e = cc

pub taken_waits : (note : Note) (s : ℕ) (old new : Pool) → (by_store old s ≡ note ∷ by_store new s) × Elsewhere s (by_store old) (by_store new) → IsPermutation (note ∷ all_notes new) (all_notes old)
taken_waits note s old new taken =
    one_more (by_store new) (by_store old) s note [] (by_store new s) refl taken.0 (λ r ne. sym (taken.1 r ne)) 64 (has_store old s (let some = ap length taken.0 in omega arith))

-- ---- the law

gathered_all : {X : Type 0} (P : X → Type 0) (f : ℕ → List X) (n : ℕ) → ((s : ℕ) → s < n → AllByRecursion P (f s)) → AllByRecursion P (gathered f n)
unfolding gathered
gathered_all P f zero h = tt
gathered_all P f (suc n) h = All-append P (gathered f n) (f n) (gathered_all P f n (λ s l. h s (omega arith))) (h n (omega arith))

held_stores : (slots : List Slot) (s : ℕ) (ps : List ℕ) → list_all (holds slots s) ps ≡ true → AllByRecursion (λ n. n.store ≡ s) (map (note_at slots) ps)
held_stores slots s [] h = tt
held_stores slots s (p ∷ ps) h =
    let both = and_parts (holds slots s p) (list_all (holds slots s) ps) h in
    (eqb-true _ s both.0, held_stores slots s ps both.1)

module _ (pool : Pool) (sound : Sound pool) where
  -- a note stands with the store that it names
  pub at_home : (s : ℕ) → s < 64 → AllByRecursion (λ n. n.store ≡ s) (by_store pool s)
  at_home s known =
      subst (AllByRecursion (λ n. n.store ≡ s)) (store_within pool s known)
      (held_stores pool.slots.now s (chain pool.slots.now pool.heads (capacity_of pool) s) (sound.chained s (omega arith)).0)

  choice_none : (s : ℕ) → by_store pool s ≡ [] → AllByRecursion (λ n. n.store ≡ s → ⊥) (all_notes pool)
  choice_none s none =
      gathered_all (λ n. n.store ≡ s → ⊥) (by_store pool) 64
      (λ t known. ⊎_elim
      (λ e. subst (AllByRecursion (λ n. n.store ≡ s → ⊥)) (sym (ap (by_store pool) e ∙ none)) tt)
      (λ ne. All-weaker (λ n. n.store ≡ t) (λ n. n.store ≡ s → ⊥) (λ n here there. ne (sym here ∙ there)) (by_store pool t) (at_home t known))
      (cases_eq t s))

  choice_some : (s : ℕ) (note : Note) (rest : List Note) → by_store pool s ≡ note ∷ rest → ContainsAt (all_notes pool) note × (note.store ≡ s)
  choice_some s note rest is =
      let some = ap length is in
      let known = has_store pool s (omega arith) in
      let without = upd (by_store pool) s rest in
      let shuffled = one_more without (by_store pool) s note [] rest (upd_same (by_store pool) s rest s refl) is (λ t ne. sym (upd_other (by_store pool) s rest t ne)) 64 known in (
        has_shuffled (note ∷ gathered without 64) (all_notes pool) note shuffled (0, omega arith, λ d. refl),
        (subst (AllByRecursion (λ n. n.store ≡ s)) is (at_home s known)).0,
      )

  choice : (s : ℕ) (ns : List Note) → by_store pool s ≡ ns → Choice (all_notes pool) s (front ns)
  choice s [] is = choice_none s is
  choice s (note ∷ rest) is = choice_some s note rest is

  pub pool_lawful : Lawful (all_notes pool) (capacity_of pool) (λ s. front (by_store pool s))
  pool_lawful = record {
    within = let count = free_count_of pool sound in omega arith;
    limit = sound.sized;
    stores = gathered_all (λ n. n.store ≤ 63) (by_store pool) 64 (λ s known. All-weaker (λ n. n.store ≡ s) (λ n. n.store ≤ 63) (λ n here. omega arith) (by_store pool s) (at_home s known));
    choice = λ s. choice s (by_store pool s) refl;
  }
