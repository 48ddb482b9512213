-- The chains of all stores at once, and what each step does to them. Assumes nothing.
use Rattle.std.proofs.Common.{◌≡◌, ℕ, ◌<◌, ◌≤◌, Bool, true, false, cond, ltb, ◌≢◌, List, [], ◌∷◌, ◌++◌, map, length, get_or, set, sym, refl, ap, ◌∙◌, subst, ⊎_elim, arith}
use Rattle.std.specs.List.{list_all}
use Rattle.std.proofs.lemmas.List.{get_or-set_same, get_or-set_other, set-get_or, length-set, map-append}
use Rattle.std.proofs.lemmas.List.Folds.{list_all-append}
use Rattle.std.proofs.lemmas.Bool.{lt-ltb, le-ltb, cases_eq, eqb-true, eq-eqb, and_parts, and_from, cond-true, cond-false}
use Rattle.line.specs.declared.Note.{Note}
use Rattle.line.proofs.Updated.{upd, upd_same, upd_other}
use Rattle.chains.specs.declared.Pool.{Pool}
use Rattle.chains.specs.declared.Slot.{Slot}
use Rattle.chains.specs.Stores.{capacity_of}
use Rattle.chains.specs.Walk.{blank, slot, slot_at, holds, last_or, linked_to}
use Rattle.chains.proofs.Linked.{Linked, FreeOf, note_at, linked_set, once, places_below, elsewhere, holds_set, notes_set, last_rest, last_push, all_last, pass_last, holds_linked_to, notes_linked_to, extend}

-- from its first place h to its last place t, chain s goes over the places and holds the notes
pub record Thread (slots : List Slot) (cap h t s : ℕ) (places : List ℕ) (notes : List Note) : Type 0 where
  pub linked : Linked slots cap h places
  pub owned : list_all (holds slots s) places ≡ true
  pub ended : last_or t places ≡ t
  pub noted : map (note_at slots) places ≡ notes

pub thread_is : (slots : List Slot) (cap s : ℕ) {h h' t t' : ℕ} {ps ps' : List ℕ} {ns ns' : List Note} → h' ≡ h → t' ≡ t → ps' ≡ ps → ns' ≡ ns → Thread slots cap h t s ps ns → Thread slots cap h' t' s ps' ns'
thread_is slots cap s {h} {h'} {t} {t'} {ps} {ps'} {ns} {ns'} a b c d th = record {
  linked = subst (λ q. Linked slots cap q ps') (sym a) (subst (λ qs. Linked slots cap h qs) (sym c) th.linked);
  owned = ap (list_all (holds slots s)) c ∙ th.owned;
  ended = ap (λ q. last_or q ps') b ∙ ap (last_or t) c ∙ th.ended ∙ sym b;
  noted = ap (map (note_at slots)) c ∙ th.noted ∙ sym d;
}

-- a write elsewhere
thread_set : (slots : List Slot) (cap h t s : ℕ) (ps : List ℕ) (ns : List Note) (y : ℕ) (v : Slot) → FreeOf y ps → Thread slots cap h t s ps ns → Thread (set slots y v) cap h t s ps ns
thread_set slots cap h t s ps ns y v free th = record {
  linked = linked_set slots cap h ps y v free th.linked;
  owned = holds_set slots s ps y v free ∙ th.owned;
  ended = th.ended;
  noted = notes_set slots ps y v free ∙ th.noted;
}

-- the first place leaves
thread_pop : (slots : List Slot) (cap h t s p : ℕ) (ps : List ℕ) (n : Note) (ns : List Note) → Thread slots cap h t s (p ∷ ps) (n ∷ ns) → Thread slots cap (slot_at slots p).link t s ps ns
thread_pop slots cap h t s p ps n ns th = record {
  linked = subst (λ q. Linked slots cap (slot_at slots q).link ps) (sym th.linked.0) th.linked.2;
  owned = (and_parts (holds slots s p) (list_all (holds slots s) ps) th.owned).1;
  ended = last_rest t p ps th.ended;
  noted = let e : note_at slots p ∷ map (note_at slots) ps ≡ n ∷ ns = th.noted in cc;
}

-- a place joins in front
thread_front : (slots : List Slot) (cap h t s p : ℕ) (ps : List ℕ) (n : Note) (ns : List Note) → p < cap → cap ≤ length slots → n.store ≡ s → FreeOf p ps → Thread slots cap h t s ps ns → Thread (set slots p (slot n h)) cap p (cond (ltb h cap) t p) s (p ∷ ps) (n ∷ ns)
thread_front slots cap h t s p ps n ns below within for-s free th =
    let slots' = set slots p (slot n h) in
    let kept = thread_set slots cap h t s ps ns p (slot n h) free th in
    let here : slot_at slots' p ≡ slot n h = get_or-set_same slots p (slot n h) blank (omega arith) in
    record {
      linked = (refl, below, subst (λ (q : Slot). Linked slots' cap q.link ps) (sym here) kept.linked);
      owned = and_from (holds slots' s p) (list_all (holds slots' s) ps) (eq-eqb _ s (ap (λ (q : Slot). q.note.store) here ∙ for-s)) kept.owned;
      ended = ends ps th.linked th.ended;
      noted = ap (λ (q : Slot). q.note ∷ map (note_at slots') ps) here ∙ ap (λ ms. n ∷ ms) kept.noted;
    }
  where
    ends : (ps : List ℕ) → Linked slots cap h ps → last_or t ps ≡ t → last_or p ps ≡ cond (ltb h cap) t p
    ends [] l e = sym (cond-false (ltb h cap) t p (le-ltb h cap l))
    ends (x ∷ xs) l e = e ∙ sym (cond-true (ltb h cap) t p (lt-ltb h cap l.1))

-- the last place of a chain that has one is a place
pub tail_below : (slots : List Slot) (cap h t s : ℕ) (ps : List ℕ) (ns : List Note) → Thread slots cap h t s ps ns → h < cap → t < cap
tail_below slots cap h t s [] ns th low = absurd (omega (arith, th.linked))
tail_below slots cap h t s (x ∷ xs) ns th low = subst (λ y. y < cap) th.ended (all_last (λ y. y < cap) x xs (places_below slots cap h (x ∷ xs) th.linked))

-- a place joins behind the last one of a chain that has one
thread_back : (slots : List Slot) (cap h t s x : ℕ) (xs : List ℕ) (ns : List Note) (p : ℕ) (n : Note) (end : ℕ) → p < cap → cap ≤ length slots → cap ≤ end → n.store ≡ s → FreeOf p (x ∷ xs) → Thread slots cap h t s (x ∷ xs) ns → Thread (linked_to (set slots p (slot n end)) t p) cap h p s ((x ∷ xs) ++ p ∷ []) (ns ++ n ∷ [])
thread_back slots cap h t s x xs ns p n end below within past for-s free th =
    let slots₁ = set slots p (slot n end) in
    let slots₂ = linked_to slots₁ t p in
    let kept = thread_set slots cap h t s (x ∷ xs) ns p (slot n end) free th in
    let here : slot_at slots₁ p ≡ slot n end = get_or-set_same slots p (slot n end) blank (omega arith) in
    let apart : p ≢ t = λ e. all_last (λ y. y ≢ p) x xs free (th.ended ∙ sym e) in
    let low = tail_below slots cap h t s (x ∷ xs) ns th th.linked.1 in
    let wide : length slots₁ ≡ length slots = length-set slots p (slot n end) in
    let alone : Linked slots₁ cap p (p ∷ []) = (refl, below, subst (λ (q : Slot). cap ≤ q.link) (sym here) past) in
    let mine : list_all (holds slots₁ s) (p ∷ []) ≡ true = and_from (holds slots₁ s p) true (eq-eqb _ s (ap (λ (q : Slot). q.note.store) here ∙ for-s)) refl in
    record {
      linked = extend slots₁ cap h x xs t p (p ∷ []) (omega arith) th.ended (apart, tt) kept.linked alone;
      owned = holds_linked_to slots₁ t p s ((x ∷ xs) ++ p ∷ []) ∙ list_all-append (holds slots₁ s) (x ∷ xs) (p ∷ []) ∙ and_from (list_all (holds slots₁ s) (x ∷ xs)) (list_all (holds slots₁ s) (p ∷ [])) kept.owned mine;
      ended = last_push p p (x ∷ xs);
      noted = notes_linked_to slots₁ t p ((x ∷ xs) ++ p ∷ []) ∙ map-append (note_at slots₁) (x ∷ xs) (p ∷ []) ∙ ap (λ ms. ms ++ note_at slots₁ p ∷ []) kept.noted ∙ ap (λ (q : Slot). ns ++ q.note ∷ []) here;
    }

-- ---- all chains

abbrev pub Threads : List Slot → List ℕ → List ℕ → ℕ → (ℕ → List ℕ) → (ℕ → List Note) → Type 0
Threads slots heads tails cap places notes =
    (s : ℕ) → s < 65 → Thread slots cap (get_or heads s 0) (get_or tails s 0) s (places s) (notes s)

-- one chain is changed, and the others are not
threads_upd : (slots : List Slot) (heads tails : List ℕ) (cap : ℕ) (places : ℕ → List ℕ) (notes : ℕ → List Note) (to h t : ℕ) (ps : List ℕ) (ns : List Note) → to < length heads → to < length tails → Thread slots cap h t to ps ns → ((s : ℕ) → s < 65 → s ≢ to → Thread slots cap (get_or heads s 0) (get_or tails s 0) s (places s) (notes s)) → Threads slots (set heads to h) (set tails to t) cap (upd places to ps) (upd notes to ns)
threads_upd slots heads tails cap places notes to h t ps ns in-heads in-tails here others s below =
    let At : ℕ → Type 0 = λ s. Thread slots cap (get_or (set heads to h) s 0) (get_or (set tails to t) s 0) s (upd places to ps s) (upd notes to ns s) in
    ⊎_elim
    (λ e. subst At (sym e) (thread_is slots cap to (get_or-set_same heads to h 0 in-heads) (get_or-set_same tails to t 0 in-tails) (upd_same places to ps to refl) (upd_same notes to ns to refl) here))
    (λ ne. thread_is slots cap s (get_or-set_other heads to s h 0 ne) (get_or-set_other tails to s t 0 ne) (upd_other places to ps s ne) (upd_other notes to ns s ne) (others s below ne))
    (cases_eq s to)

set_cond : (b : Bool) (xs : List ℕ) (i v : ℕ) → set xs i (cond b (get_or xs i 0) v) ≡ cond b xs (set xs i v)
set_cond true xs i v = set-get_or xs i 0
set_cond false xs i v = refl

-- no chain holds the place
abbrev pub Loose : ℕ → (ℕ → List ℕ) → Type 0
Loose p places = (s : ℕ) → s < 65 → FreeOf p (places s)

module _ (slots : List Slot) (heads tails : List ℕ) (cap : ℕ) (places : ℕ → List ℕ) (notes : ℕ → List Note)
    (many_heads : length heads ≡ 65) (many_tails : length tails ≡ 65) (threads : Threads slots heads tails cap places notes) where
  -- the first place of a chain leaves it
  pub pop_step : (from p : ℕ) (ps : List ℕ) (n : Note) (ns : List Note) → from < 65 → places from ≡ p ∷ ps → notes from ≡ n ∷ ns → Threads slots (set heads from (slot_at slots p).link) tails cap (upd places from ps) (upd notes from ns)
  pop_step from p ps n ns low is-places is-notes =
      let here = thread_pop slots cap (get_or heads from 0) (get_or tails from 0) from p ps n ns (thread_is slots cap from refl refl (sym is-places) (sym is-notes) (threads from low)) in
      subst (λ ts. Threads slots (set heads from (slot_at slots p).link) ts cap (upd places from ps) (upd notes from ns)) (set-get_or tails from 0)
      (threads_upd slots heads tails cap places notes from (slot_at slots p).link (get_or tails from 0) ps ns (omega arith) (omega arith) here (λ s l ne. threads s l))

  -- it then stands on none
  pub pop_loose : (from p : ℕ) (ps : List ℕ) → from < 65 → places from ≡ p ∷ ps → Loose p (upd places from ps)
  pop_loose from p ps low is-places s below =
      let own = thread_is slots cap from refl refl (sym is-places) refl (threads from low) in
      let store : (slot_at slots p).note.store ≡ from = eqb-true _ from (and_parts (holds slots from p) (list_all (holds slots from) ps) own.owned).0 in
      ⊎_elim
      (λ e. subst (FreeOf p) (sym (upd_same places from ps s e)) (once slots cap (get_or heads from 0) p ps own.linked))
      (λ ne. subst (FreeOf p) (sym (upd_other places from ps s ne)) (elsewhere slots s (places s) p (λ e. ne (sym e ∙ store)) (threads s below).owned))
      (cases_eq s from)

  module _ (p : ℕ) (n : Note) (below : p < cap) (within : cap ≤ length slots) (known : n.store < 65) (loose : Loose p places) where
    -- a loose place joins a chain in front
    pub front_step : Threads (set slots p (slot n (get_or heads n.store 0))) (set heads n.store p) (cond (ltb (get_or heads n.store 0) cap) tails (set tails n.store p)) cap (upd places n.store (p ∷ places n.store)) (upd notes n.store (n ∷ notes n.store))
    front_step =
        let to = n.store in
        let head = get_or heads to 0 in
        let tail = get_or tails to 0 in
        let here = thread_front slots cap head tail to p (places to) n (notes to) below within refl (loose to known) (threads to known) in
        let tails-is : set tails to (cond (ltb head cap) tail p) ≡ cond (ltb head cap) tails (set tails to p) = set_cond (ltb head cap) tails to p in
        subst (λ ts. Threads (set slots p (slot n head)) (set heads to p) ts cap (upd places to (p ∷ places to)) (upd notes to (n ∷ notes to))) tails-is
        (threads_upd (set slots p (slot n head)) heads tails cap places notes to p (cond (ltb head cap) tail p) (p ∷ places to) (n ∷ notes to) (omega arith) (omega arith) here
        (λ s l ne. thread_set slots cap (get_or heads s 0) (get_or tails s 0) s (places s) (notes s) p (slot n head) (loose s l) (threads s l)))

    module _ (end : ℕ) (past : cap ≤ end) where
      -- the tables after a place has joined behind a chain that has a place, or has none
      abbrev Back : Bool → List ℕ → List Note → Type 0
      Back b ps ns =
          Threads (cond b (linked_to (set slots p (slot n end)) (get_or tails n.store 0) p) (set slots p (slot n end))) (cond b heads (set heads n.store p)) (set tails n.store p) cap (upd places n.store (ps ++ p ∷ [])) (upd notes n.store (ns ++ n ∷ []))

      back_none : (ns : List Note) → Thread slots cap (get_or heads n.store 0) (get_or tails n.store 0) n.store [] ns → Back false [] ns
      back_none ns th =
          let to = n.store in
          let tail = get_or tails to 0 in
          let slots₁ = set slots p (slot n end) in
          let empty : Thread slots cap end tail to [] ns = record { linked = past; owned = refl; ended = refl; noted = th.noted } in
          let joined = thread_front slots cap end tail to p [] n ns below within refl tt empty in
          let none : ns ≡ [] = sym th.noted in
          let here = thread_is slots₁ cap to refl (sym (cond-false (ltb end cap) tail p (le-ltb end cap past))) refl (ap (λ ms. ms ++ n ∷ []) none ∙ ap (λ ms. n ∷ ms) (sym none)) joined in
          threads_upd slots₁ heads tails cap places notes to p p (p ∷ []) (ns ++ n ∷ []) (omega arith) (omega arith) here
          (λ s l ne. thread_set slots cap (get_or heads s 0) (get_or tails s 0) s (places s) (notes s) p (slot n end) (loose s l) (threads s l))

      back_some : (x : ℕ) (xs : List ℕ) (ns : List Note) → FreeOf p (x ∷ xs) → Thread slots cap (get_or heads n.store 0) (get_or tails n.store 0) n.store (x ∷ xs) ns → Back true (x ∷ xs) ns
      back_some x xs ns free th =
          let to = n.store in
          let head = get_or heads to 0 in
          let tail = get_or tails to 0 in
          let slots₁ = set slots p (slot n end) in
          let slots₂ = linked_to slots₁ tail p in
          let here = thread_back slots cap head tail to x xs ns p n end below within past refl free th in
          let kept = thread_set slots cap head tail to (x ∷ xs) ns p (slot n end) free th in
          let store : (slot_at slots₁ tail).note.store ≡ to = subst (λ y. (slot_at slots₁ y).note.store ≡ to) th.ended (eqb-true _ to (pass_last (holds slots₁ to) x xs kept.owned)) in
          subst (λ hs. Threads slots₂ hs (set tails to p) cap (upd places to ((x ∷ xs) ++ p ∷ [])) (upd notes to (ns ++ n ∷ []))) (set-get_or heads to 0)
          (threads_upd slots₂ heads tails cap places notes to head p ((x ∷ xs) ++ p ∷ []) (ns ++ n ∷ []) (omega arith) (omega arith) here
          (λ s l ne. let other = thread_set slots cap (get_or heads s 0) (get_or tails s 0) s (places s) (notes s) p (slot n end) (loose s l) (threads s l) in
          thread_set slots₁ cap (get_or heads s 0) (get_or tails s 0) s (places s) (notes s) tail (slot (slot_at slots₁ tail).note p) (elsewhere slots₁ s (places s) tail (λ e. ne (sym e ∙ store)) other.owned) other))

      -- a loose place joins a chain behind; the end's number is no place
      back_by : (ps : List ℕ) (ns : List Note) → FreeOf p ps → Thread slots cap (get_or heads n.store 0) (get_or tails n.store 0) n.store ps ns → Back (ltb (get_or heads n.store 0) cap) ps ns
      back_by [] ns free th = subst (λ b. Back b [] ns) (sym (le-ltb _ cap th.linked)) (back_none ns th)
      back_by (x ∷ xs) ns free th = subst (λ b. Back b (x ∷ xs) ns) (sym (lt-ltb _ cap th.linked.1)) (back_some x xs ns free th)

      pub back_step : Threads (cond (ltb (get_or heads n.store 0) cap) (linked_to (set slots p (slot n end)) (get_or tails n.store 0) p) (set slots p (slot n end))) (cond (ltb (get_or heads n.store 0) cap) heads (set heads n.store p)) (set tails n.store p) cap (upd places n.store (places n.store ++ p ∷ [])) (upd notes n.store (notes n.store ++ n ∷ []))
      back_step = back_by (places n.store) (notes n.store) (loose n.store known) (threads n.store known)

-- ---- the chains of a pool

abbrev pub ThreadsIn : Pool → (ℕ → List ℕ) → (ℕ → List Note) → Type 0
ThreadsIn pool = Threads pool.slots.now pool.heads pool.tails (capacity_of pool)

pub threads_in : (pool : Pool) {slots : List Slot} {heads tails : List ℕ} {cap : ℕ} {places : ℕ → List ℕ} {notes : ℕ → List Note} → slots ≡ pool.slots.now → heads ≡ pool.heads → tails ≡ pool.tails → cap ≡ capacity_of pool → Threads slots heads tails cap places notes → ThreadsIn pool places notes
threads_in pool {slots} {heads} {tails} {cap} {places} {notes} a b c d t =
    subst (λ ss. Threads ss pool.heads pool.tails (capacity_of pool) places notes) a
    (subst (λ hs. Threads slots hs pool.tails (capacity_of pool) places notes) b
    (subst (λ ts. Threads slots heads ts (capacity_of pool) places notes) c
    (subst (λ k. Threads slots heads tails k places notes) d t)))
