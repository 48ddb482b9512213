-- The lists that stand for numbers, joined. Assumes nothing.
use Rattle.std.proofs.Common.{◌≡◌, ℕ, zero, suc, ◌+◌, ◌<◌, ◌≤◌, List, [], ◌++◌, length, sym, refl, ap, ◌∙◌, ⊎_elim, arith}
use Rattle.std.proofs.lemmas.List.{length-append}
use Rattle.std.proofs.lemmas.Bool.{cases_eq}
use Rattle.line.proofs.Updated.{upd, upd_same, upd_other}
use Rattle.chains.specs.Gathered.{gathered}

pub gathered_same : {X : Type 0} (f g : ℕ → List X) (n : ℕ) → ((s : ℕ) → s < n → f s ≡ g s) → gathered f n ≡ gathered g n
unfolding gathered
gathered_same f g zero h = refl
gathered_same f g (suc n) h =
    ap (λ xs. xs ++ f n) (gathered_same f g n (λ s l. h s (omega arith))) ∙ ap (λ xs. gathered g n ++ xs) (h n (omega arith))

pub gathered_lengths : {X Y : Type 0} (f : ℕ → List X) (g : ℕ → List Y) (n : ℕ) → ((s : ℕ) → s < n → length (f s) ≡ length (g s)) → length (gathered f n) ≡ length (gathered g n)
unfolding gathered
gathered_lengths f g zero h = refl
gathered_lengths f g (suc n) h =
    let left = length-append (gathered f n) (f n) in
    let right = length-append (gathered g n) (g n) in
    let rest = gathered_lengths f g n (λ s l. h s (omega arith)) in
    let here = h n (omega arith) in omega arith

-- how many there are after a change
pub gathered_upd : {X : Type 0} (f : ℕ → List X) (t : ℕ) (v : List X) (n : ℕ) → t < n → length (gathered (upd f t v) n) + length (f t) ≡ length (gathered f n) + length v
unfolding gathered
gathered_upd f t v zero h = absurd (omega arith)
gathered_upd f t v (suc n) h =
    let g = upd f t v in
    let left = length-append (gathered g n) (g n) in
    let right = length-append (gathered f n) (f n) in
    ⊎_elim
    (λ e. let same = ap length (gathered_same g f n (λ s l. upd_other f t v s (omega arith))) in
    let here = ap (λ s. length (g s)) (sym e) ∙ ap length (upd_same f t v t refl) in
    let there = ap (λ s. length (f s)) e in omega arith)
    (λ ne. let rest = gathered_upd f t v n (omega arith) in
    let same = ap length (upd_other f t v n (λ e. ne (sym e))) in omega arith)
    (cases_eq t n)

-- none is longer than all of them
pub gathered_bounds : {X : Type 0} (f : ℕ → List X) (n s : ℕ) → s < n → length (f s) ≤ length (gathered f n)
unfolding gathered
gathered_bounds f zero s h = absurd (omega arith)
gathered_bounds f (suc n) s h =
    let all = length-append (gathered f n) (f n) in
    ⊎_elim
    (λ e. let same = ap (λ r. length (f r)) e in omega arith)
    (λ ne. let rest = gathered_bounds f n s (omega arith) in omega arith)
    (cases_eq s n)

pub gathered_none : {X : Type 0} (f : ℕ → List X) (n : ℕ) → ((s : ℕ) → s < n → f s ≡ []) → gathered f n ≡ []
unfolding gathered
gathered_none f zero h = refl
gathered_none f (suc n) h = ap (λ xs. xs ++ f n) (gathered_none f n (λ s l. h s (omega arith))) ∙ h n (omega arith)
