-- A pool in the making: the places below i are on the free chain, and the others on none. Assumes nothing.
use Rattle.std.proofs.Common.{◌≡◌, ℕ, zero, suc, ◌+◌, ◌<◌, ◌≤◌, Bool, true, false, cond, eqb, ltb, ◌≢◌, List, [], ◌∷◌, length, get_or, set, replicate, sym, refl, ap, ◌∙◌, subst, ⊎_elim, add-one, arith}
use Rattle.std.specs.List.{AllByRecursion}
use Rattle.std.proofs.ByRecursion.{All-weaker}
use Rattle.std.proofs.lemmas.List.{get_or-replicate}
use Rattle.std.proofs.lemmas.Bool.{cases_eq}
use Rattle.line.specs.declared.Note.{Note}
use Rattle.line.proofs.Updated.{upd, upd_same, upd_other}
use Rattle.chains.specs.declared.Pool.{Pool}
use Rattle.chains.specs.declared.Slot.{Slot}
use Rattle.chains.specs.Gathered.{gathered}
use Rattle.chains.specs.Stores.{Sized, Sound, all_notes, by_store, capacity_of}
use Rattle.chains.specs.Walk.{slot, no_note}
use Rattle.chains.proofs.Linked.{FreeOf}
use Rattle.chains.proofs.Puts.{store_within}
use Rattle.chains.proofs.Tables.{kept_by, held_is, chain_is}
use Rattle.chains.proofs.Threads.{Threads, ThreadsIn, Loose, front_step, thread_is, threads_in}
use Rattle.chains.proofs.Gathered.{gathered_upd, gathered_none}

-- the numbers below i, from the highest down
abbrev pub down : ℕ → List ℕ
down zero = []
down (suc i) = i ∷ down i

down_below : (i : ℕ) → AllByRecursion (λ x. x < i) (down i)
down_below zero = tt
down_below (suc i) = (omega arith, All-weaker (λ x. x < i) (λ x. x < suc i) (λ x h. omega arith) (down i) (down_below i))

length_down : (i : ℕ) → length (down i) ≡ i
length_down zero = refl
length_down (suc i) = ap suc (length_down i)

abbrev pub free_below : ℕ → ℕ → List ℕ
free_below i = upd (λ _. []) 64 (down i)

abbrev pub blank_below : ℕ → ℕ → List Note
blank_below i = upd (λ _. []) 64 (replicate i no_note)

abbrev pub Fresh : Pool → ℕ → Type 0
Fresh pool i = ThreadsIn pool (free_below i) (blank_below i)

upd_none : {X : Type 0} (b : Bool) → cond {A = List X} b [] [] ≡ []
upd_none true = refl
upd_none false = refl

pub fresh_none : (slots : List Slot) (cap end : ℕ) → cap ≤ end → Threads slots (replicate 65 end) (replicate 65 end) cap (free_below 0) (blank_below 0)
fresh_none slots cap end past s below =
    let at-end = get_or-replicate 65 s end 0 below in
    thread_is slots cap s refl refl (upd_none (eqb s 64)) (upd_none (eqb s 64)) (record { linked = omega arith; owned = refl; ended = refl; noted = refl })

-- a list for each number, of which the last is made longer
upd_upd : {X : Type 0} (f : ℕ → X) (t : ℕ) (v w w' : X) (s : ℕ) → w' ≡ w → upd f t w' s ≡ upd (upd f t v) t w s
upd_upd f t v w w' s e =
    ⊎_elim
    (λ here. upd_same f t w' s here ∙ e ∙ sym (upd_same (upd f t v) t w s here))
    (λ ne. upd_other f t w' s ne ∙ sym (upd_other f t v s ne) ∙ sym (upd_other (upd f t v) t w s ne))
    (cases_eq s t)

loose : (i : ℕ) → Loose i (free_below i)
loose i s below =
    ⊎_elim
    (λ e. subst (FreeOf i) (sym (upd_same (λ _. []) 64 (down i) s e)) (All-weaker (λ x. x < i) (λ x. x ≢ i) (λ x h e. omega arith) (down i) (down_below i)))
    (λ ne. subst (FreeOf i) (sym (upd_other (λ _. []) 64 (down i) s ne)) tt)
    (cases_eq s 64)

-- one place more
pub fresh_more : (old new : Pool) (i : ℕ) → i < capacity_of old → Fresh old i → capacity_of new ≡ capacity_of old → new.slots.now ≡ set old.slots.now i (slot no_note (get_or old.heads 64 0)) → new.heads ≡ set old.heads 64 i → new.tails ≡ cond (ltb (get_or old.heads 64 0) (capacity_of old)) old.tails (set old.tails 64 i) → Fresh new (i + 1)
fresh_more old new i below fresh size is-slots is-heads is-tails =
    let step = front_step old.slots.now old.heads old.tails (capacity_of old) (free_below i) (blank_below i) old.tabled.0 old.tabled.1 fresh i no_note below (omega arith) (omega arith) (loose i) in
    let there : ThreadsIn new (upd (free_below i) 64 (i ∷ free_below i 64)) (upd (blank_below i) 64 (no_note ∷ blank_below i 64)) =
    threads_in new (sym is-slots) (sym is-heads) (sym is-tails) (sym size) step in
    λ s low. thread_is new.slots.now (capacity_of new) s refl refl
    (upd_upd (λ _. []) 64 (down i) (i ∷ down i) (down (i + 1)) s (ap down (add-one i)))
    (upd_upd (λ _. []) 64 (replicate i no_note) (no_note ∷ replicate i no_note) (replicate (i + 1) no_note) s (ap (λ k. replicate k no_note) (add-one i)))
    (there s low)

-- a pool that is made
module _ (pool : Pool) (fresh : Fresh pool (capacity_of pool)) where
  whole : length (gathered (free_below (capacity_of pool)) 65) ≡ capacity_of pool
  whole =
      let empty : ℕ → List ℕ = λ _. [] in
      let all = gathered_upd empty 64 (down (capacity_of pool)) 65 (omega arith) in
      let none = ap length (gathered_none empty 65 (λ s l. refl)) in
      let free = length_down (capacity_of pool) in omega arith

  pub fresh_sound : Sized pool → pool.room ≡ capacity_of pool → Sound pool
  fresh_sound sized all-free =
      let chains = chain_is pool.slots.now pool.heads pool.tails (capacity_of pool) (free_below (capacity_of pool)) (blank_below (capacity_of pool)) fresh whole in
      let kept = kept_by pool.slots.now pool.heads pool.tails (capacity_of pool) (free_below (capacity_of pool)) (blank_below (capacity_of pool)) fresh whole in
      record {
        sized = sized;
        counted = (kept.whole, ap length (chains 64 (omega arith)) ∙ length_down (capacity_of pool) ∙ sym all-free);
        chained = λ s below. (kept.owned s below, kept.ended s below);
      }

  pub fresh_empty : all_notes pool ≡ []
  fresh_empty =
      gathered_none (by_store pool) 64
      (λ s known. sym (store_within pool s known)
      ∙ held_is pool.slots.now pool.heads pool.tails (capacity_of pool) (free_below (capacity_of pool)) (blank_below (capacity_of pool)) fresh whole s (omega arith)
      ∙ upd_other (λ _. []) 64 (replicate (capacity_of pool) no_note) s (λ e. omega arith))
