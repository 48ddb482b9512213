-- What is left of a list after a test that one of its elements fails.
use Rattle.std.proofs.Common.{◌≡◌, ℕ, zero, suc, ◌<◌, ◌≤◌, Bool, true, false, List, [], ◌∷◌, length, get_or, arith, cond, ap}
use Rattle.std.specs.List.{filter}
use Rattle.std.proofs.lemmas.List.Sums.{length-filter, count_by-le-length}

no_longer : {X : Type 0} (p : X → Bool) (xs : List X) → length (filter p xs) ≤ length xs
no_longer p xs = omega (arith, length-filter p xs, count_by-le-length p xs)

pub shorter : {X : Type 0} (p : X → Bool) (xs : List X) (k : ℕ) (d : X) → k < length xs → p (get_or xs k d) ≡ false → length (filter p xs) < length xs
shorter p [] k d lt fails = absurd (omega (arith, lt))
shorter p (x ∷ xs) zero d lt fails =
    let without = ap (λ b. length (cond b (x ∷ filter p xs) (filter p xs))) fails in
    omega (arith, without, no_longer p xs)
shorter p (x ∷ xs) (suc k) d lt fails =
    let rest = shorter p xs k d (omega (arith, lt)) fails in
    elim (p x) as (λ b. length (cond b (x ∷ filter p xs) (filter p xs)) < length (x ∷ xs)) [ true ↦ omega (arith, rest) | false ↦ omega (arith, rest) ]
