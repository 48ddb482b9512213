-- A place that goes from the front of one chain to another chain. Assumes nothing.
use Rattle.std.proofs.Common.{◌≡◌, ℕ, ◌+◌, ◌<◌, ◌≤◌, cond, ltb, List, [], ◌∷◌, ◌++◌, map, length, get_or, drop, set, sym, refl, ap, ◌∙◌, subst, arith}
use Rattle.std.proofs.lemmas.List.{length-set, length_push}
use Rattle.std.proofs.lemmas.Bool.{lt-ltb, cond-true}
use Rattle.line.specs.declared.Note.{Note}
use Rattle.line.proofs.Updated.{upd, upd_same, upd_other}
use Rattle.chains.specs.declared.End.{End}
use Rattle.chains.specs.declared.End.TheVariants.{Front, Back}
use Rattle.chains.specs.declared.Pool.{Pool}
use Rattle.chains.specs.Gathered.{gathered}
use Rattle.chains.specs.Stores.{KeptIn, MovableIn, SameSizes, capacity_of, held_in, places_of}
use Rattle.chains.specs.Tables.{Moved, joined}
use Rattle.chains.specs.Walk.{slot, slot_at, walk, linked_to}
use Rattle.chains.proofs.Linked.{note_at}
use Rattle.chains.proofs.Tables.{threads_of, kept_by, held_is, chain_first}
use Rattle.chains.proofs.Threads.{Threads, ThreadsIn, Loose, pop_step, pop_loose, tail_below, front_step, back_step, threads_in}
use Rattle.chains.proofs.Gathered.{gathered_upd}

module _ (old : Pool) (from : ℕ) (n : Note) (can : MovableIn old from n) where
  -- the place that goes, and those that stay
  abbrev place : ℕ
  place = get_or old.heads from 0

  abbrev stay : List ℕ
  stay = walk old.slots.now (capacity_of old) (capacity_of old) (slot_at old.slots.now place).link

  abbrev heads₁ : List ℕ
  heads₁ = set old.heads from (slot_at old.slots.now place).link

  abbrev places₁ : ℕ → List ℕ
  places₁ = upd (places_of old) from stay

  abbrev notes₁ : ℕ → List Note
  notes₁ = upd (held_in old) from (map (note_at old.slots.now) stay)

  chain_from : places_of old from ≡ place ∷ stay
  chain_from = chain_first old.slots.now old.heads (capacity_of old) from ∙ cond-true (ltb place (capacity_of old)) (place ∷ stay) [] (lt-ltb place (capacity_of old) can.some)

  held_from : held_in old from ≡ note_at old.slots.now place ∷ map (note_at old.slots.now) stay
  held_from = ap (map (note_at old.slots.now)) chain_from

  -- after it has left, before it joins
  popped : Threads old.slots.now heads₁ old.tails (capacity_of old) places₁ notes₁
  popped = pop_step old.slots.now old.heads old.tails (capacity_of old) (places_of old) (held_in old) can.many_heads can.many_tails (threads_of old.slots.now old.heads old.tails (capacity_of old) can.kept) from place stay (note_at old.slots.now place) (map (note_at old.slots.now) stay) can.low chain_from held_from

  loose : Loose place places₁
  loose = pop_loose old.slots.now old.heads old.tails (capacity_of old) (places_of old) (held_in old) can.many_heads can.many_tails (threads_of old.slots.now old.heads old.tails (capacity_of old) can.kept) from place stay can.low chain_from

  many_heads₁ : length heads₁ ≡ 65
  many_heads₁ = length-set old.heads from (slot_at old.slots.now place).link ∙ can.many_heads

  -- it has joined a chain, which is longer by one
  module _ (new : Pool) (size : capacity_of new ≡ capacity_of old) (ps : List ℕ) (ns : List Note) (one_more : length ps ≡ length (places₁ n.store) + 1)
      (threads : ThreadsIn new (upd places₁ n.store ps) (upd notes₁ n.store ns)) where
    whole : length (gathered (upd places₁ n.store ps) 65) ≡ capacity_of new
    whole =
        let less = gathered_upd (places_of old) from stay 65 can.low in
        let more = gathered_upd places₁ n.store ps 65 can.known in
        let length_from = ap length chain_from in
        let all = can.kept.whole in
        omega arith

    kept_then : KeptIn new
    kept_then = kept_by new.slots.now new.heads new.tails (capacity_of new) (upd places₁ n.store ps) (upd notes₁ n.store ns) threads whole

    moved_then : (at : End) → ns ≡ joined at n (held_in old n.store) → Moved at from n (held_in old) (held_in new)
    moved_then at is-notes =
        let is = held_is new.slots.now new.heads new.tails (capacity_of new) (upd places₁ n.store ps) (upd notes₁ n.store ns) threads whole in
        record {
          left = is from can.low ∙ upd_other notes₁ n.store ns from can.apart ∙ upd_same (held_in old) from (map (note_at old.slots.now) stay) from refl ∙ ap (drop 1) (sym held_from);
          had = let length_from = ap length held_from in omega arith;
          joins = is n.store can.known ∙ upd_same notes₁ n.store ns n.store refl ∙ is-notes;
          others = λ s below not-from not-to. is s below ∙ upd_other notes₁ n.store ns s not-to ∙ upd_other (held_in old) from (map (note_at old.slots.now) stay) s not-from;
        }

    carried_then : (at : End) → ns ≡ joined at n (held_in old n.store) → KeptIn new × Moved at from n (held_in old) (held_in new)
    carried_then at is-notes = (kept_then, moved_then at is-notes)

  -- the notes of the chain that it joins were the same
  joined_before : notes₁ n.store ≡ held_in old n.store
  joined_before = upd_other (held_in old) from (map (note_at old.slots.now) stay) n.store (λ e. can.apart (sym e))

  -- the pool between the steps
  module _ (mid : Pool) (p : ℕ) (is-place : p ≡ get_or old.heads from 0) (same-slots : mid.slots.now ≡ old.slots.now) (is-mid : mid.heads ≡ set old.heads from (slot_at old.slots.now p).link) (same-tails : mid.tails ≡ old.tails)
      (sizes : SameSizes old mid) where
    abbrev head : ℕ
    head = get_or mid.heads n.store 0

    mid-heads : mid.heads ≡ heads₁
    mid-heads = is-mid ∙ ap (λ q. set old.heads from (slot_at old.slots.now q).link) is-place

    -- where a place is to join behind, the last place is one
    pub tail_within : head < capacity_of mid → get_or mid.tails n.store 0 < length mid.slots.now
    tail_within some-there =
        let there : get_or heads₁ n.store 0 < (capacity_of old) = subst (λ hs. get_or hs n.store 0 < capacity_of old) mid-heads (omega arith) in
        let low = tail_below old.slots.now (capacity_of old) (get_or heads₁ n.store 0) (get_or old.tails n.store 0) n.store (places₁ n.store) (notes₁ n.store) (popped n.store can.known) there in
        let lent = can.lent in
        let same = ap length same-slots in
        let last = ap (λ ts. get_or ts n.store 0) same-tails in omega arith

    -- the pool after them
    module _ (new : Pool) (size : capacity_of new ≡ capacity_of mid) where
      capacity_then : capacity_of new ≡ capacity_of old
      capacity_then = size ∙ sizes.1

      module _ (is-slots : new.slots.now ≡ set mid.slots.now p (slot n head)) (is-heads : new.heads ≡ set mid.heads n.store p) (is-tails : new.tails ≡ cond (ltb head (capacity_of mid)) mid.tails (set mid.tails n.store p)) where
        front_threads : ThreadsIn new (upd places₁ n.store (place ∷ places₁ n.store)) (upd notes₁ n.store (n ∷ notes₁ n.store))
        front_threads =
            let step = front_step old.slots.now heads₁ old.tails (capacity_of old) places₁ notes₁ many_heads₁ can.many_tails popped place n can.some can.lent can.known loose in
            let on-slots : set old.slots.now place (slot n (get_or heads₁ n.store 0)) ≡ new.slots.now = cc mid-heads in
            let on-heads : set heads₁ n.store place ≡ new.heads = cc mid-heads in
            let on-tails : cond (ltb (get_or heads₁ n.store 0) (capacity_of old)) old.tails (set old.tails n.store place) ≡ new.tails = cc mid-heads in
            threads_in new on-slots on-heads on-tails (sym capacity_then) step

        pub front_carried : (at : End) → at ≡ Front → KeptIn new × Moved at from n (held_in old) (held_in new)
        front_carried at is-front =
            carried_then new capacity_then (place ∷ places₁ n.store) (n ∷ notes₁ n.store) (omega arith) front_threads at
            (ap (λ ms. n ∷ ms) joined_before ∙ ap (λ e. joined e n (held_in old n.store)) (sym is-front))

      module _ (end : ℕ) (past : capacity_of old ≤ end) (is-slots : new.slots.now ≡ cond (ltb head (capacity_of mid)) (linked_to (set mid.slots.now p (slot n end)) (get_or mid.tails n.store 0) p) (set mid.slots.now p (slot n end)))
          (is-heads : new.heads ≡ cond (ltb head (capacity_of mid)) mid.heads (set mid.heads n.store p)) (is-tails : new.tails ≡ set mid.tails n.store p) where
        back_threads : ThreadsIn new (upd places₁ n.store (places₁ n.store ++ place ∷ [])) (upd notes₁ n.store (notes₁ n.store ++ n ∷ []))
        back_threads =
            let step = back_step old.slots.now heads₁ old.tails (capacity_of old) places₁ notes₁ many_heads₁ can.many_tails popped place n can.some can.lent can.known loose end past in
            let on-slots : cond (ltb (get_or heads₁ n.store 0) (capacity_of old)) (linked_to (set old.slots.now place (slot n end)) (get_or old.tails n.store 0) place) (set old.slots.now place (slot n end)) ≡ new.slots.now = cc mid-heads in
            let on-heads : cond (ltb (get_or heads₁ n.store 0) (capacity_of old)) heads₁ (set heads₁ n.store place) ≡ new.heads = cc mid-heads in
            let on-tails : set old.tails n.store place ≡ new.tails = cc in
            threads_in new on-slots on-heads on-tails (sym capacity_then) step

        pub back_carried : (at : End) → at ≡ Back → KeptIn new × Moved at from n (held_in old) (held_in new)
        back_carried at is-back =
            carried_then new capacity_then (places₁ n.store ++ place ∷ []) (notes₁ n.store ++ n ∷ []) (length_push (places₁ n.store) place) back_threads at
            (ap (λ ms. ms ++ n ∷ []) joined_before ∙ ap (λ e. joined e n (held_in old n.store)) (sym is-back))
