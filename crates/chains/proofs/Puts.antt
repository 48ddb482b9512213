-- What a move to or from the free chain does to the notes of the stores. Assumes nothing.
use Rattle.std.proofs.Common.{◌≡◌, ℕ, ◌+◌, ◌<◌, ◌≤◌, ltb, ◌≢◌, List, [], length, get_or, drop, sym, ap, ◌∙◌, ⊎_elim, arith}
use Rattle.std.proofs.lemmas.List.{length-drop, length-map, length_push}
use Rattle.std.proofs.lemmas.Bool.{cases_lt, le-ltb, cond-false}
use Rattle.line.specs.declared.Note.{Note}
use Rattle.chains.specs.declared.End.{End}
use Rattle.chains.specs.declared.End.TheVariants.{Front, Back}
use Rattle.chains.specs.declared.Pool.{Pool}
use Rattle.chains.specs.declared.Slot.{Slot}
use Rattle.chains.specs.Stores.{SameSizes, Sound, by_store, all_notes, places_of, Elsewhere, Placed, Removed, KeptIn, MovableIn, capacity_of, held_in}
use Rattle.chains.specs.Tables.{Moved, joined}
use Rattle.chains.specs.Walk.{chain}
use Rattle.chains.proofs.Linked.{note_at}
use Rattle.chains.proofs.Tables.{notes_within, notes_past, chain_first, free_count}

-- a chain with a place begins with one
pub starts : (slots : List Slot) (heads : List ℕ) (cap s : ℕ) → 0 < length (chain slots heads cap s) → get_or heads s 0 < cap
starts slots heads cap s some =
    ⊎_elim (λ h. h)
    (λ h. let none = ap length (chain_first slots heads cap s ∙ cond-false (ltb (get_or heads s 0) cap) _ [] (le-ltb _ cap h)) in absurd (omega arith))
    (cases_lt (get_or heads s 0) cap)

pub kept_of : (pool : Pool) → Sound pool → KeptIn pool
kept_of pool sound = record {
  whole = sound.counted.0;
  owned = λ s below. (sound.chained s below).0;
  ended = λ s below. (sound.chained s below).1;
}

-- sound again after a move, once the free places are counted anew
pub sound_again : (old new : Pool) (room : ℕ) (tabled : (length new.heads ≡ 65) × (length new.tails ≡ 65)) → Sound old → KeptIn new → SameSizes old new → length (places_of new 64) ≡ room → Sound (record new { room = room; tabled = tabled })
sound_again old new room tabled sound kept sizes count = record {
  sized = let sized = sound.sized in omega arith;
  counted = (kept.whole, count);
  chained = λ s below. (kept.owned s below, kept.ended s below);
}

-- a free place may go to the chain of a note
pub movable_free : (pool : Pool) (sound : Sound pool) (note : Note) → note.store ≤ 63 → 0 < pool.room → MovableIn pool 64 note
movable_free pool sound note known room =
    let spare = sound.counted.1 in
    record {
      kept = kept_of pool sound;
      limit = sound.sized;
      lent = omega arith;
      many_heads = pool.tabled.0;
      many_tails = pool.tabled.1;
      low = omega arith;
      known = omega arith;
      apart = λ e. omega arith;
      some = starts pool.slots.now pool.heads (capacity_of pool) 64 (omega arith);
    }

pub free_count_of : (pool : Pool) → Sound pool → length (all_notes pool) + pool.room ≡ capacity_of pool
free_count_of pool sound = free_count pool.slots.now pool.heads (capacity_of pool) pool.room sound.counted.0 sound.counted.1

pub store_within : (pool : Pool) (s : ℕ) → s < 64 → held_in pool s ≡ by_store pool s
store_within pool s known = sym (notes_within pool.slots.now pool.heads (capacity_of pool) s known)

store_past : (pool : Pool) (s : ℕ) → 64 ≤ s → by_store pool s ≡ []
store_past pool s past = notes_past pool.slots.now pool.heads (capacity_of pool) s past

-- a store that has a note is one of the 64, and its chain has a place
module _ (pool : Pool) (s : ℕ) (has : 0 < length (by_store pool s)) where
  pub has_store : s < 64
  has_store =
      ⊎_elim (λ h. h)
      (λ past. let none = ap length (store_past pool s past) in absurd (omega arith))
      (cases_lt s 64)

  pub movable_taken : Sound pool → (blank : Note) → blank.store ≡ 64 → MovableIn pool s blank
  movable_taken sound blank to_free =
      let known = has_store in
      let places = length-map (places_of pool s) (note_at pool.slots.now) in
      let within = ap length (store_within pool s known) in
      record {
        kept = kept_of pool sound;
        limit = sound.sized;
        lent = omega arith;
        many_heads = pool.tabled.0;
        many_tails = pool.tabled.1;
        low = omega arith;
        known = omega arith;
        apart = λ e. omega arith;
        some = starts pool.slots.now pool.heads (capacity_of pool) s (omega arith);
      }

length_joined : (at : End) (n : Note) (ns : List Note) → length (joined at n ns) ≡ length ns + 1
length_joined Front n ns = omega arith
length_joined Back n ns = length_push ns n

-- a place has gone from one chain to that of the note
module _ (old new : Pool) (from : ℕ) (n : Note) (at : End) (moved : Moved at from n (held_in old) (held_in new)) where
  -- the chain that a place left is shorter by one
  pub shorter : length (places_of old from) ≡ length (places_of new from) + 1
  shorter =
      let before = length-map (places_of old from) (note_at old.slots.now) in
      let after = length-map (places_of new from) (note_at new.slots.now) in
      let left = ap length moved.left in
      let dropped = length-drop 1 (held_in old from) in
      let had = moved.had in
      omega arith

  -- the chain that a place joined is longer by one
  pub longer : length (places_of new n.store) ≡ length (places_of old n.store) + 1
  longer =
      let before = length-map (places_of old n.store) (note_at old.slots.now) in
      let after = length-map (places_of new n.store) (note_at new.slots.now) in
      let joins = ap length moved.joins in
      let more = length_joined at n (held_in old n.store) in omega arith

  -- of two chains one is the free one
  others : (t : ℕ) → ((s : ℕ) → s < 64 → s ≢ t → (s ≢ from) × (s ≢ n.store)) → Elsewhere t (by_store old) (by_store new)
  others t apart s ne =
      ⊎_elim
      (λ known. let both = apart s known ne in
      sym (store_within new s known) ∙ moved.others s (omega arith) both.0 both.1 ∙ store_within old s known)
      (λ past. store_past new s past ∙ sym (store_past old s past))
      (cases_lt s 64)

  -- it was free, and now holds the note of a store
  pub placed : from ≡ 64 → n.store ≤ 63 → Placed at n old new
  placed free known = (
    sym (store_within new n.store (omega arith)) ∙ moved.joins ∙ ap (joined at n) (store_within old n.store (omega arith)),
    others n.store (λ s l ne. (λ e. omega arith, ne)),
  )

  -- it held a store's first note, and now is free
  pub removed : from < 64 → n.store ≡ 64 → Removed from old new
  removed known free = (
    sym (store_within new from known) ∙ moved.left ∙ ap (drop 1) (store_within old from known),
    others from (λ s l ne. (ne, λ e. omega arith)),
  )
