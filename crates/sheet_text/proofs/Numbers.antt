-- Every refusal has a number, and equal answers equal ones. Assumes nothing.
use Rattle.std.proofs.Common.{◌≡◌, ℕ, Err, Ok, Result, ap}
use Rattle.faults.specs.declared.Refusal.{Refusal}
use Rattle.faults.specs.Numbers.{number}
use Rattle.reading.specs.declared.Sizes.{Sizes}

abbrev answer_number : Result Sizes (Refusal × ℕ) → ℕ
answer_number (Ok _) = 0
answer_number (Err f) = number f.0

pub number_of : {f g : Refusal × ℕ} → ◌≡◌ {A = Result Sizes (Refusal × ℕ)} (Err f) (Err g) → number f.0 ≡ number g.0
number_of e = ap answer_number e
