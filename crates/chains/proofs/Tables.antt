-- From the facts that a pool keeps of its tables to the chains that they describe, and back. Assumes nothing.
use Rattle.std.proofs.Common.{◌≡◌, ℕ, ◌+◌, ◌<◌, ◌≤◌, cond, ltb, List, [], ◌∷◌, map, length, get_or, refl, ap, ◌∙◌, add-one, arith}
use Rattle.std.specs.List.{list_all}
use Rattle.std.proofs.lemmas.List.{length-append, length-map}
use Rattle.std.proofs.lemmas.Bool.{lt-ltb, le-ltb, cond-true, cond-false}
use Rattle.line.specs.declared.Note.{Note}
use Rattle.chains.specs.declared.Slot.{Slot}
use Rattle.chains.specs.Gathered.{gathered}
use Rattle.chains.specs.Stores.{notes_in}
use Rattle.chains.specs.Tables.{Kept, held}
use Rattle.chains.specs.Walk.{slot_at, walk, chain, holds, last_or}
use Rattle.chains.proofs.Linked.{note_at, linked_walk, walk_linked}
use Rattle.chains.proofs.Gathered.{gathered_same, gathered_lengths, gathered_bounds}
use Rattle.chains.proofs.Threads.{Threads}

module _ (slots : List Slot) (heads tails : List ℕ) (cap : ℕ) where
  pub threads_of : Kept slots heads tails cap → Threads slots heads tails cap (chain slots heads cap) (held slots heads cap)
  threads_of kept s below =
      let bound = gathered_bounds (chain slots heads cap) 65 s below in
      let whole = kept.whole in
      record {
        linked = linked_walk slots cap (cap + 1) (get_or heads s 0) (omega arith);
        owned = kept.owned s below;
        ended = kept.ended s below;
        noted = refl;
      }

  module _ (places : ℕ → List ℕ) (notes : ℕ → List Note) (threads : Threads slots heads tails cap places notes) (whole : length (gathered places 65) ≡ cap) where
    -- the chains of the tables are those that the threads describe
    pub chain_is : (s : ℕ) → s < 65 → chain slots heads cap s ≡ places s
    chain_is s below =
        let bound = gathered_bounds places 65 s below in
        walk_linked slots cap (cap + 1) (get_or heads s 0) (places s) (threads s below).linked (omega arith)

    pub kept_by : Kept slots heads tails cap
    kept_by = record {
      whole = ap length (gathered_same (chain slots heads cap) places 65 chain_is) ∙ whole;
      owned = λ s below. ap (list_all (holds slots s)) (chain_is s below) ∙ (threads s below).owned;
      ended = λ s below. ap (last_or (get_or tails s 0)) (chain_is s below) ∙ (threads s below).ended;
    }

    pub held_is : (s : ℕ) → s < 65 → held slots heads cap s ≡ notes s
    held_is s below = ap (map (note_at slots)) (chain_is s below) ∙ (threads s below).noted

pub notes_within : (slots : List Slot) (heads : List ℕ) (cap s : ℕ) → s < 64 → notes_in slots heads cap s ≡ held slots heads cap s
notes_within slots heads cap s below = cond-true (ltb s 64) (held slots heads cap s) [] (lt-ltb s 64 below)

pub notes_past : (slots : List Slot) (heads : List ℕ) (cap s : ℕ) → 64 ≤ s → notes_in slots heads cap s ≡ []
notes_past slots heads cap s past = cond-false (ltb s 64) (held slots heads cap s) [] (le-ltb s 64 past)

-- a chain by its first place
pub chain_first : (slots : List Slot) (heads : List ℕ) (cap s : ℕ) → chain slots heads cap s ≡ cond (ltb (get_or heads s 0) cap) (get_or heads s 0 ∷ walk slots cap cap (slot_at slots (get_or heads s 0)).link) []
chain_first slots heads cap s = ap (λ n. walk slots cap n (get_or heads s 0)) (add-one cap)

-- the free places are those that hold no note
pub free_count : (slots : List Slot) (heads : List ℕ) (cap room : ℕ) → length (gathered (chain slots heads cap) 65) ≡ cap → length (chain slots heads cap 64) ≡ room → length (gathered (notes_in slots heads cap) 64) + room ≡ cap
unfolding gathered
free_count slots heads cap room whole spare =
    let split = length-append (gathered (chain slots heads cap) 64) (chain slots heads cap 64) in
    let same = gathered_lengths (notes_in slots heads cap) (chain slots heads cap) 64
    (λ s below. ap length (notes_within slots heads cap s below) ∙ length-map (chain slots heads cap s) (note_at slots)) in
    omega arith
