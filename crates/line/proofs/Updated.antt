-- A function of numbers, changed at one of them. Assumes nothing.
use Rattle.std.proofs.Common.{◌≡◌, ℕ, cond, eqb, ◌≢◌, ap}
use Rattle.std.proofs.lemmas.Bool.{eq-eqb, ne_eqb}

-- f, but a at u
abbrev pub upd : {A : Type 0} → (ℕ → A) → ℕ → A → ℕ → A
upd f u a x = cond (eqb x u) a (f x)

pub upd_same : {A : Type 0} (f : ℕ → A) (u : ℕ) (a : A) (x : ℕ) → x ≡ u → upd f u a x ≡ a
upd_same f u a x e = ap (λ b. cond b a (f x)) (eq-eqb x u e)

pub upd_other : {A : Type 0} (f : ℕ → A) (u : ℕ) (a : A) (x : ℕ) → x ≢ u → upd f u a x ≡ f x
upd_other f u a x e = ap (λ b. cond b a (f x)) (ne_eqb x u e)
