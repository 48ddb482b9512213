-- What a line's fields have written so far, and one field more. Assumes nothing.
use Rattle.std.proofs.Common.{◌≡◌, ℕ, ◌<◌, List, [], ◌∷◌, ◌++◌, length, Some, None, Option, sym, ap, ◌∙◌, subst, inl, inr, arith, length-append, MatchOption}
use Rattle.text.specs.declared.Part.{Part}
use Rattle.text.specs.Numbers.{Numeral}
use Rattle.text.specs.Parts.{Free, NextField}
use Rattle.text.specs.Rows.{Values, one, more}
use Rattle.text.proofs.Cuts.{free_lacks, one_cut}
use Rattle.text.proofs.OneWay.{no_comma, Fronts, fronts_push, fronts_last, fronts_strip, values_one_way}

-- bs wrote the values so far, and rest is left of it
abbrev pub Sofar : List ℕ → List ℕ → Option Part → Type 0
Sofar vs bs rest = MatchOption rest (Values vs bs) (λ p. Fronts vs bs p.bytes.now)

abbrev bytes : Part → List ℕ
bytes p = p.bytes.now

never : {A : Type 0} {x : A} → None ≡ Some x → ⊥
never e = let z : ◌≡◌ {A = ℕ} 0 1 = cc in omega arith

-- with no field left, all was written
pub no_field : (vs bs : List ℕ) (rest left : Option Part) → NextField rest None left → Sofar vs bs rest → Values vs bs
no_field vs bs None left n s = s
no_field vs bs (Some p) left (inl n) s = absurd (never n.1)
no_field vs bs (Some p) left (inr n) s = absurd (never n.3)

-- the first field of what writes values is a number
alone : {us p : List ℕ} → Free 44 p → Values us p → (v : ℕ) × Numeral p v
alone f (one {v = v} n) = (v, n)
alone f (more g a n e w) = absurd (free_lacks 44 g a (subst (Free 44) e f))

in_front : {us p : List ℕ} (f q : List ℕ) → Free 44 f → p ≡ f ++ 44 ∷ q → Values us p → (v : ℕ) × Numeral f v
in_front f q h e (one n) = absurd (free_lacks 44 f q (subst (Free 44) e (no_comma n)))
in_front f q h e (more {v = v} g a n d w) = (v, subst (λ l. Numeral l v) (one_cut 44 g a f q (no_comma n) h (sym d ∙ e)).0 n)

some_values : (us : List ℕ) {p : List ℕ} → Values us p → length us ≡ 0 → ⊥
some_values [] w e = elim w [ ]
some_values (u ∷ us) w e = omega arith

-- a field is the first of what is left, of which there is some
pub some_left : (vs bs : List ℕ) (rest left : Option Part) (f : Part) → NextField rest (Some f) left → Sofar vs bs rest → (p : List ℕ) × Fronts vs bs p × ((us : List ℕ) → Values us p → (v : ℕ) × Numeral (bytes f) v)
some_left vs bs None left f n s = absurd (never (sym n.0))
some_left vs bs (Some p) left f (inl n) s =
    let e : f ≡ p = (let h = n.1 in cc) in
    (bytes p, s, λ us w. subst (λ x. (v : ℕ) × Numeral (bytes x) v) (sym e) (alone n.0 w))
some_left vs bs (Some p) left f (inr n) s =
    let e : f ≡ n.0 = (let h = n.3 in cc) in
    (bytes p, s, λ us w. subst (λ x. (v : ℕ) × Numeral (bytes x) v) (sym e) (in_front _ _ n.2.first n.2.bytes w))

-- a field that is a number is one value more
pub one_more : (vs bs : List ℕ) (rest left : Option Part) (f : Part) (v : ℕ) → NextField rest (Some f) left → Sofar vs bs rest → Numeral (bytes f) v → Sofar (vs ++ v ∷ []) bs left
one_more vs bs None left f v n s m = absurd (never (sym n.0))
one_more vs bs (Some p) left f v (inl n) s m =
    let e : f ≡ p = (let h = n.1 in cc) in
    subst (Sofar (vs ++ v ∷ []) bs) (sym n.2) (fronts_last s (subst (λ x. Numeral (bytes x) v) e m))
one_more vs bs (Some p) left f v (inr n) s m =
    let e : f ≡ n.0 = (let h = n.3 in cc) in
    subst (Sofar (vs ++ v ∷ []) bs) (sym n.4) (fronts_push s (subst (λ x. Numeral (bytes x) v) e m) n.2.bytes)

module _ (vs bs : List ℕ) (rest left : Option Part) (s : Sofar vs bs rest) where
  -- too few fields, a field that is no number, too many fields: nothing writes so many values
  pub too_few : NextField rest None left → (ws : List ℕ) → length vs < length ws → Values ws bs → ⊥
  too_few n ws h w = let e = ap length (values_one_way (no_field vs bs rest left n s) w) in omega arith

  pub no_number : (f : Part) → NextField rest (Some f) left → ((v : ℕ) → Numeral (bytes f) v → ⊥) → (ws : List ℕ) → Values ws bs → ⊥
  no_number f n none ws w =
      let p = some_left vs bs rest left f n s in
      let after = fronts_strip p.1 w in
      let is = p.2 after.0 after.2 in
      none is.0 is.1

  pub too_many : (f : Part) → NextField rest (Some f) left → (ws : List ℕ) → length ws ≡ length vs → Values ws bs → ⊥
  too_many f n ws h w =
      let p = some_left vs bs rest left f n s in
      let after = fronts_strip p.1 w in
      let long = ap length after.1 ∙ length-append vs after.0 in
      some_values after.0 after.2 (omega arith)
