use Rattle.std.proofs.Common.{◌≡◌, ℕ, [], ◌∷◌, get_or, Some, None, Ok, Err, Result, sym, ap, ◌∙◌, subst, arith}
use Rattle.std.specs.Result.{OkIff, result_ok}
use Rattle.std.proofs.lemmas.Option.{none-some}
use Rattle.text.specs.Parts.{left}
use Rattle.text.specs.Rows.{Begins}
use Rattle.text.proofs.OneWay.{one_row}
use Rattle.reading.proofs.Lists.{three}
use Rattle.reading.proofs.rows.parcel_line.Goals as goal

pub returns-then-named-number : goal.returns-then-named-number
returns-then-named-number c = λ p rest fit b.
    let same = (one_row c.in_ok-named.ensures.0 b).0 in
    let number : c.args.number ≡ get_or c.in_ok-named.field-0 0 0 = ap (λ l. get_or l 0 0) same in
    omega arith

-- a number that was converted, and one that was not
kept : {E P : Type 0} {n : ℕ} (v : ℕ) (r : Result ℕ E) → OkIff r P v → Some n ≡ result_ok r → P × (n ≡ v)
kept {n} v (Ok x) h e = let same : n ≡ x = cc in (h.0, same ∙ h.1)
kept v (Err d) h e = absurd (none-some _ (sym e))

too_large : {E P : Type 0} (v : ℕ) (r : Result ℕ E) → OkIff r P v → None ≡ result_ok r → P → ⊥
too_large v (Ok x) h e = absurd (none-some _ e)
too_large v (Err d) h e = h

pub returns-in_err-edition : goal.returns-in_err-edition
returns-in_err-edition c =
    rw c.from_residual-in_err-edition.ensures (λ p rest fit b.
    let same = (one_row c.in_ok-named.ensures.0 b).0 in
    let edition : p.edition ≡ get_or c.in_ok-named.field-0 2 0 = ap (λ l. get_or l 2 0) same in
    too_large _ c.try_from.result c.try_from.ensures c.in_err-edition.ensures.value (omega (arith, fit)))

pub returns : goal.returns
returns c =
    let told = c.in_ok-named.ensures in
    let values = c.in_ok-named.field-0 in
    let named : get_or values 0 0 ≡ c.args.number = omega arith in
    let edition = kept _ c.try_from.result c.try_from.ensures c.in_ok-edition.ensures.value in (
      omega (arith, edition.0, edition.1),
      subst (λ l. Begins (l ∷ []) (left c.args.lines.now) (left c.next_numbers.new.lines))
          (three values told.1 ∙ (λ i. named i ∷ get_or values 1 0 ∷ sym edition.1 i ∷ []))
          told.0,
    )
