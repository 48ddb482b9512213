-- A chain that ends, and what a write to the table of slots leaves of it. Assumes nothing.
use Rattle.std.proofs.Common.{◌≡◌, ℕ, zero, suc, ◌<◌, ◌≤◌, Bool, true, false, cond, ◌&&◌, eqb, ltb, ◌≢◌, List, [], ◌∷◌, ◌++◌, map, length, set, sym, refl, ap, ◌∙◌, subst, ⊎_elim, arith}
use Rattle.std.specs.List.{AllByRecursion, list_all}
use Rattle.std.proofs.Math.Path.{fun_ext}
use Rattle.std.proofs.lemmas.List.{get_or-set_same, get_or-set_other, set_past}
use Rattle.std.proofs.lemmas.Bool.{ltb-true, ltb-false, lt-ltb, le-ltb, cases_lt, cases_eq, eqb-true, and_parts, cond-true, cond-false}
use Rattle.line.specs.declared.Note.{Note}
use Rattle.chains.specs.declared.Slot.{Slot}
use Rattle.chains.specs.Walk.{blank, slot, slot_at, walk, holds, last_or, linked_to}

-- the links lead from p along the list, and there to a number that is no place
abbrev pub Linked : List Slot → ℕ → ℕ → List ℕ → Type 0
Linked slots cap p [] = cap ≤ p
Linked slots cap p (x ∷ xs) = (x ≡ p) × (p < cap) × Linked slots cap (slot_at slots p).link xs

-- y is not in the list
abbrev pub FreeOf : ℕ → List ℕ → Type 0
FreeOf y xs = AllByRecursion (λ x. x ≢ y) xs

-- a walk that stops before its bound has come to the end
pub linked_walk : (slots : List Slot) (cap n p : ℕ) → length (walk slots cap n p) < n → Linked slots cap p (walk slots cap n p)
linked_walk slots cap zero p h = omega arith
linked_walk slots cap (suc n) p h =
    let on : (b : Bool) → ltb p cap ≡ b → length (cond b (p ∷ walk slots cap n (slot_at slots p).link) []) < suc n → Linked slots cap p (cond b (p ∷ walk slots cap n (slot_at slots p).link) []) =
    λ b. elim b as (λ b. ltb p cap ≡ b → length (cond b (p ∷ walk slots cap n (slot_at slots p).link) []) < suc n → Linked slots cap p (cond b (p ∷ walk slots cap n (slot_at slots p).link) [])) [
      | true ↦ λ e l. (refl, ltb-true p cap e, linked_walk slots cap n (slot_at slots p).link (omega arith))
      | false ↦ λ e l. ltb-false p cap e
    ] in
    on (ltb p cap) refl h

-- a chain that ends is what a walk of enough places finds
pub walk_linked : (slots : List Slot) (cap n p : ℕ) (xs : List ℕ) → Linked slots cap p xs → length xs < n → walk slots cap n p ≡ xs
walk_linked slots cap zero p xs l h = absurd (omega arith)
walk_linked slots cap (suc n) p [] l h = cond-false (ltb p cap) _ _ (le-ltb p cap l)
walk_linked slots cap (suc n) p (x ∷ xs) l h =
    cond-true (ltb p cap) _ _ (lt-ltb p cap l.1)
    ∙ ap (λ ys. p ∷ ys) (walk_linked slots cap n (slot_at slots p).link xs l.2 (omega arith))
    ∙ ap (λ y. y ∷ xs) (sym l.0)

-- a write elsewhere
pub linked_set : (slots : List Slot) (cap p : ℕ) (xs : List ℕ) (y : ℕ) (v : Slot) → FreeOf y xs → Linked slots cap p xs → Linked (set slots y v) cap p xs
linked_set slots cap p [] y v free l = l
linked_set slots cap p (x ∷ xs) y v free l =
    let ne : p ≢ y = λ e. free.0 (l.0 ∙ e) in
    let same : slot_at slots p ≡ slot_at (set slots y v) p = sym (get_or-set_other slots y p v blank ne) in
    let rest = linked_set slots cap (slot_at slots p).link xs y v free.1 l.2 in
    (l.0, l.1, subst (λ (q : Slot). Linked (set slots y v) cap q.link xs) same rest)

-- from one place there is one way to the end
same_way : (slots : List Slot) (cap p : ℕ) (xs ys : List ℕ) → Linked slots cap p xs → Linked slots cap p ys → length xs ≡ length ys
same_way slots cap p [] [] l k = refl
same_way slots cap p [] (y ∷ ys) l k = absurd (omega arith)
same_way slots cap p (x ∷ xs) [] l k = absurd (omega arith)
same_way slots cap p (x ∷ xs) (y ∷ ys) l k = ap suc (same_way slots cap (slot_at slots p).link xs ys l.2 k.2)

-- a place from which the way is longer does not stand on a chain
not_on : (slots : List Slot) (cap p : ℕ) (xs : List ℕ) (q : ℕ) (ys : List ℕ) → Linked slots cap p xs → Linked slots cap q ys → length xs < length ys → FreeOf q xs
not_on slots cap p [] q ys l k h = tt
not_on slots cap p (x ∷ xs) q ys l k h = (
  λ e. let at-q = subst (λ r. Linked slots cap r (x ∷ xs)) (sym l.0 ∙ e) l in let same = same_way slots cap q (x ∷ xs) ys at-q k in omega arith,
  not_on slots cap (slot_at slots p).link xs q ys l.2 k (omega arith),
)

-- no place stands twice on a chain
pub once : (slots : List Slot) (cap p x : ℕ) (xs : List ℕ) → Linked slots cap p (x ∷ xs) → FreeOf x xs
once slots cap p x xs l =
    let free : FreeOf p xs = not_on slots cap (slot_at slots p).link xs p (x ∷ xs) l.2 l (omega arith) in
    subst (λ y. FreeOf y xs) (sym l.0) free

-- every place of a chain is below the capacity
pub places_below : (slots : List Slot) (cap p : ℕ) (xs : List ℕ) → Linked slots cap p xs → AllByRecursion (λ x. x < cap) xs
places_below slots cap p [] l = tt
places_below slots cap p (x ∷ xs) l = (omega arith, places_below slots cap (slot_at slots p).link xs l.2)

-- a chain whose notes are for s holds no place whose note is for another
pub elsewhere : (slots : List Slot) (s : ℕ) (xs : List ℕ) (y : ℕ) → (slot_at slots y).note.store ≢ s → list_all (holds slots s) xs ≡ true → FreeOf y xs
elsewhere slots s [] y ne h = tt
elsewhere slots s (x ∷ xs) y ne h =
    let both = and_parts (holds slots s x) (list_all (holds slots s) xs) h in
    (λ e. ne (subst (λ z. (slot_at slots z).note.store ≡ s) e (eqb-true _ _ both.0)), elsewhere slots s xs y ne both.1)

-- the notes of a chain after a write elsewhere
pub holds_set : (slots : List Slot) (s : ℕ) (xs : List ℕ) (y : ℕ) (v : Slot) → FreeOf y xs → list_all (holds (set slots y v) s) xs ≡ list_all (holds slots s) xs
holds_set slots s [] y v free = refl
holds_set slots s (x ∷ xs) y v free =
    let same : slot_at (set slots y v) x ≡ slot_at slots x = get_or-set_other slots y x v blank free.0 in
    ap (λ (q : Slot). eqb q.note.store s && list_all (holds (set slots y v) s) xs) same
    ∙ ap (λ b. holds slots s x && b) (holds_set slots s xs y v free.1)

abbrev pub note_at : List Slot → ℕ → Note
note_at slots p = (slot_at slots p).note

pub notes_set : (slots : List Slot) (xs : List ℕ) (y : ℕ) (v : Slot) → FreeOf y xs → map (note_at (set slots y v)) xs ≡ map (note_at slots) xs
notes_set slots [] y v free = refl
notes_set slots (x ∷ xs) y v free =
    let same : slot_at (set slots y v) x ≡ slot_at slots x = get_or-set_other slots y x v blank free.0 in
    ap (λ (q : Slot). q.note ∷ map (note_at (set slots y v)) xs) same
    ∙ ap (λ ns. note_at slots x ∷ ns) (notes_set slots xs y v free.1)

-- ---- the last place

pub last_rest : (t x : ℕ) (xs : List ℕ) → last_or t (x ∷ xs) ≡ t → last_or t xs ≡ t
last_rest t x [] h = refl
last_rest t x (y ∷ ys) h = h

pub last_push : (t x : ℕ) (xs : List ℕ) → last_or t (xs ++ x ∷ []) ≡ x
last_push t x [] = refl
last_push t x (y ∷ ys) = last_push y x ys

pub all_last : (P : ℕ → Type 0) (x : ℕ) (xs : List ℕ) → AllByRecursion P (x ∷ xs) → P (last_or x xs)
all_last P x [] h = h.0
all_last P x (y ∷ ys) h = all_last P y ys h.1

pub pass_last : (f : ℕ → Bool) (x : ℕ) (xs : List ℕ) → list_all f (x ∷ xs) ≡ true → f (last_or x xs) ≡ true
pass_last f x [] h = (and_parts (f x) true h).0
pass_last f x (y ∷ ys) h = pass_last f y ys (and_parts (f x) (list_all f (y ∷ ys)) h).1

-- ---- a chain that is led on from its last place

-- the note stays where only a link is written
pub note_linked_to : (slots : List Slot) (t link p : ℕ) → note_at (linked_to slots t link) p ≡ note_at slots p
note_linked_to slots t link p =
    let v = slot (note_at slots t) link in
    ⊎_elim
    (λ e. ⊎_elim
    (λ h. ap (note_at (set slots t v)) e ∙ ap (λ (q : Slot). q.note) (get_or-set_same slots t v blank h) ∙ ap (note_at slots) (sym e))
    (λ h. ap (λ ss. note_at ss p) (set_past slots t v h))
    (cases_lt t (length slots)))
    (λ ne. ap (λ (q : Slot). q.note) (get_or-set_other slots t p v blank ne))
    (cases_eq p t)

notes_linked : (slots : List Slot) (t link : ℕ) → note_at (linked_to slots t link) ≡ note_at slots
notes_linked slots t link = fun_ext (note_linked_to slots t link)

pub holds_linked_to : (slots : List Slot) (t link s : ℕ) (xs : List ℕ) → list_all (holds (linked_to slots t link) s) xs ≡ list_all (holds slots s) xs
holds_linked_to slots t link s xs = ap (λ (note : ℕ → Note). list_all (λ p. eqb (note p).store s) xs) (notes_linked slots t link)

pub notes_linked_to : (slots : List Slot) (t link : ℕ) (xs : List ℕ) → map (note_at (linked_to slots t link)) xs ≡ map (note_at slots) xs
notes_linked_to slots t link xs = ap (λ (note : ℕ → Note). map note xs) (notes_linked slots t link)

pub extend : (slots : List Slot) (cap p x : ℕ) (xs : List ℕ) (t y : ℕ) (ys : List ℕ) → t < length slots → last_or x xs ≡ t → FreeOf t ys → Linked slots cap p (x ∷ xs) → Linked slots cap y ys → Linked (linked_to slots t y) cap p ((x ∷ xs) ++ ys)
extend slots cap p x [] t y ys in' last free l k =
    let slots' = linked_to slots t y in
    let at-t : (slot_at slots' t).link ≡ y = ap (λ (q : Slot). q.link) (get_or-set_same slots t (slot (note_at slots t) y) blank in') in
    let to-y : y ≡ (slot_at slots' p).link = sym (ap (λ z. (slot_at slots' z).link) (sym l.0 ∙ last) ∙ at-t) in
    (l.0, l.1, subst (λ z. Linked slots' cap z ys) to-y (linked_set slots cap y ys t (slot (note_at slots t) y) free k))
extend slots cap p x (z ∷ zs) t y ys in' last free l k =
    let slots' = linked_to slots t y in
    let ne : p ≢ t = λ e. all_last (λ w. w ≢ x) z zs (once slots cap p x (z ∷ zs) l) (last ∙ sym e ∙ sym l.0) in
    let same : slot_at slots p ≡ slot_at slots' p = sym (get_or-set_other slots t p (slot (note_at slots t) y) blank ne) in
    let rest = extend slots cap (slot_at slots p).link z zs t y ys in' last free l.2 k in
    (l.0, l.1, subst (λ (q : Slot). Linked slots' cap q.link ((z ∷ zs) ++ ys)) same rest)
