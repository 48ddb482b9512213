-- Three places: two hold notes for store 5, and one is free. Assumes nothing.
use Rattle.std.specs.Prelude.{◌≡◌, ℕ, List, [], ◌∷◌, replicate, slice_set, refl}
use Rattle.line.specs.declared.Note.{Note}
use Rattle.chains.specs.declared.Slot.{Slot}
use Rattle.chains.specs.Stores.{notes_in}
use Rattle.chains.specs.Walk.{chain, no_note, slot}

-- a bid from this sender, for store 5
abbrev bid_from : ℕ → Note
bid_from sender = record { sender = sender; addressee = 9; store = 5; kind = 1 }

-- 9 is no place
abbrev slots : List Slot
slots = slot (bid_from 11) 9 ∷ slot no_note 9 ∷ slot (bid_from 12) 0 ∷ []

-- chain 5 begins at 2, the free chain at 1, and every other chain is empty
abbrev heads : List ℕ
heads = slice_set (slice_set (replicate 65 9) 5 2) 64 1

pub places_of_5 : chain slots heads 3 5 ≡ 2 ∷ 0 ∷ []
places_of_5 = refl

pub free_places : chain slots heads 3 64 ≡ 1 ∷ []
free_places = refl

pub notes_of_5 : notes_in slots heads 3 5 ≡ bid_from 12 ∷ bid_from 11 ∷ []
notes_of_5 = refl

-- the free chain is no store's
pub notes_of_64 : notes_in slots heads 3 64 ≡ []
notes_of_64 = refl
