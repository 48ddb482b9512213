-- Puts on a line for one note. Assumes nothing.
use Rattle.std.specs.Prelude.{◌≡◌, ℕ, [], ◌∷◌, Ok, Err, refl}
use Rattle.faults.specs.declared.Refusal.TheVariants.{NoStore, NoRoom}
use Rattle.line.specs.declared.Note.{Note}
use Rattle.line.specs.Calls.{put_answer}

-- a bid of parcel 5
abbrev bid_for : ℕ → Note
bid_for store = record { sender = 5; addressee = 6; store = store; kind = 1 }

pub empty_takes : put_answer (bid_for 63) [] 1 ≡ Ok tt
empty_takes = refl

pub full_refuses : put_answer (bid_for 63) (bid_for 0 ∷ []) 1 ≡ Err (NoRoom, 5)
full_refuses = refl

-- a full line looks at the store first
pub store_comes_first : put_answer (bid_for 64) (bid_for 0 ∷ []) 1 ≡ Err (NoStore, 64)
store_comes_first = refl
