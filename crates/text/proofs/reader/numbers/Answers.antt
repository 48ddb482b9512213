use Rattle.std.proofs.Common.{◌≡◌, ℕ, ◌≤◌, List, [], length, take, Bool, true, false, not, Option, Some, None, is_some, sym, refl, ◌∙◌, subst, arith, length-set, rules}
use Rattle.std.specs.Bool.{then_some}
use lib.ListN.{length-replicate}
use Rattle.std.proofs.lemmas.List.{length-take-le, take_all, take_more_set}
use Rattle.std.proofs.lemmas.Bool.{false≢true}
use Rattle.text.specs.declared.Part.{Part}
use Rattle.text.specs.Numbers.{Numeral}
use Rattle.text.specs.Parts.{NextField}
use Rattle.text.specs.Rows.{Values, OnlyValues}
use Rattle.text.proofs.OneWay.{start, values_one_way}
use Rattle.text.proofs.Steps.{Sofar, no_field, one_more, too_few, no_number, too_many}
use Rattle.text.proofs.reader.numbers.Goals as goal

pub loop-value-init : goal.loop-value-init
loop-value-init g c = (refl, subst (Sofar [] c.args.line.bytes.now) (sym c.new-fields.ensures) (start refl))

pub returns-in_err-field : goal.returns-in_err-field
returns-in_err-field g c =
    let vs = c.loop-value.value-items in
    let long = length-replicate {A = ℕ} g.row.N 0 in
    let read : length (take c.loop-value.value-index vs) ≡ c.loop-value.value-index = length-take-le c.loop-value.value-index vs (omega (arith, c.loop-value.invariant.0)) in
    rw c.from_residual.ensures (λ ws e w. too_few _ _ _ _ c.loop-value.invariant.1 c.in_err-field.ensures.steps ws (omega arith) w)

pub returns-in_err-value : goal.returns-in_err-value
returns-in_err-value g c =
    let no_value : (v : ℕ) → Numeral c.in_ok-field.field.bytes.now v → ⊥ = search rules in
    rw c.from_residual-in_err-value.ensures (λ ws e w. no_number _ _ _ _ c.loop-value.invariant.1 _ c.in_ok-field.ensures.steps no_value ws w)

pub loop-value-preserved : goal.loop-value-preserved
loop-value-preserved g c =
    let vs = c.loop-value.value-items in
    let i = c.loop-value.value-index in
    let value : Numeral c.in_ok-field.field.bytes.now c.in_ok-value.field-0 = search rules in
    let long = length-replicate {A = ℕ} g.row.N 0 in (
      length-set vs i _ ∙ c.loop-value.invariant.0,
      subst (λ l. Sofar l c.args.line.bytes.now c.next.new.self.rest) (sym (take_more_set vs i _ (omega (arith, c.loop-value.invariant.0))))
          (one_more _ _ _ _ _ _ c.in_ok-field.ensures.steps c.loop-value.invariant.1 value),
    )

-- at the end all places are filled
filled : (xs : List ℕ) (i n : ℕ) → length xs ≡ n → n ≤ i → take i xs ≡ xs
filled xs i n e h = take_all i xs (omega arith)

-- all places are filled: the line is right where no field more is handed out
ended : (vs bs : List ℕ) (rest field left : Option Part) (b : Bool) (n : ℕ) → Sofar vs bs rest → NextField rest field left → is_some field ≡ not b → length vs ≡ n → elim (then_some b vs) as (λ _. Type 0) [ Some us ↦ (length us ≡ n) × OnlyValues us bs | None ↦ ((ws : List ℕ) → length ws ≡ n → Values ws bs → ⊥) ]
ended vs bs rest None left true n s next e l = let here = no_field vs bs rest left next s in (l, record { written = here; only = λ ws w. values_one_way w here })
ended vs bs rest None left false n s next e l = absurd (false≢true e)
ended vs bs rest (Some f) left true n s next e l = absurd (false≢true (sym e))
ended vs bs rest (Some f) left false n s next e l = λ ws h w. too_many vs bs rest left s f next ws (h ∙ sym l) w

pub returns : goal.returns
returns g c =
    let vs = c.loop-value.value-items in
    let long : length vs ≡ g.row.N = c.loop-value.invariant.0 ∙ length-replicate {A = ℕ} g.row.N 0 in
    let sofar = subst (λ l. Sofar l c.args.line.bytes.now c.loop-value.fields.rest) (filled vs c.loop-value.value-index g.row.N long c.loop-value-test.false) c.loop-value.invariant.1 in
    rw c.then_some.ensures (ended vs _ _ _ _ _ _ sofar c.next-2.ensures.steps c.is_none.ensures long)
