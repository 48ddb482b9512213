-- Chains of places, linked through a table of slots. Assumes nothing.
use Rattle.std.specs.Prelude.{ℕ, zero, suc, ◌+◌, Bool, cond, List, [], ◌∷◌, ◌==◌, nat_lt, slice_index, slice_index_or, slice_set}
use Rattle.line.specs.declared.Note.{Note}
use Rattle.chains.specs.declared.Slot.{Slot}

-- what stands past the end of a table
abbrev pub blank : Slot
blank = record { note = record { sender = 0; addressee = 0; store = 0; kind = 0 }; link = 0 }

-- what a free place holds: a note for no store
abbrev pub no_note : Note
no_note = record { sender = 0; addressee = 0; store = 64; kind = 0 }

-- the slot at place p
abbrev pub slot_at : List Slot → ℕ → Slot
slot_at slots p = slice_index_or slots p blank

-- from p along the links up to a number that is no place, which is one not below the capacity; n places at most
abbrev pub walk : List Slot → ℕ → ℕ → ℕ → List ℕ
walk slots capacity zero p = []
walk slots capacity (suc n) p = cond (nat_lt p capacity) (p ∷ walk slots capacity n (slot_at slots p).link) []

-- the places of chain s, by the table of first places; a chain that ends is shorter than the walk may be
abbrev pub chain : List Slot → List ℕ → ℕ → ℕ → List ℕ
chain slots heads capacity s = walk slots capacity (capacity + 1) (slice_index heads s)

-- whether the note at place p is for store s
abbrev pub holds : List Slot → ℕ → ℕ → Bool
holds slots s p = (slot_at slots p).note.store == s

-- the last of a list, or d if it is empty
abbrev pub last_or : ℕ → List ℕ → ℕ
last_or d [] = d
last_or d (p ∷ ps) = last_or p ps

-- a slot with its note and link
abbrev pub slot : Note → ℕ → Slot
slot note link = record { note = note; link = link }

-- the table with the link at place p set
abbrev pub linked_to : List Slot → ℕ → ℕ → List Slot
linked_to slots p link = slice_set slots p (slot (slot_at slots p).note link)
