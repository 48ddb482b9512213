use Rattle.std.proofs.Common.{◌≡◌, ℕ, ◌+◌, refl, ap, ◌∙◌, arith}
use Rattle.std.proofs.lemmas.Result.{err_from_is_err_and}
use Rattle.std.proofs.lemmas.Bool.{false≢true}
use Rattle.faults.specs.declared.Refusal.{Refusal}
use Rattle.faults.specs.declared.Refusal.TheVariants.{Line}
use Rattle.reading.proofs.Wrong.{wrong_parcel, wrong_entry, too_long}
use Rattle.reading.proofs.checking.Body.check.Goals as goal

-- the number of the line after k others
place : {f : Refusal × ℕ} (n k : ℕ) → f ≡ (Line, n) → n ≡ k → f ≡ (Line, k)
place n k e h = e ∙ ap (λ i. (Line, i)) h

pub returns-in_err-check_parcels : goal.returns-in_err-check_parcels
returns-in_err-check_parcels g c =
    let p = err_from_is_err_and c.from_residual.result c.from_residual.ensures.1 in
    let told = c.in_err-check_parcels.ensures.lines in
    let k = told.0 in
    rw (p.1, p.2) (k + 1, place (k + 2) (k + 1 + 1) told.2 (omega arith), λ bs first. wrong_parcel first k told.1 told.3)

pub returns-in_err-check_entries : goal.returns-in_err-check_entries
returns-in_err-check_entries g c =
    let p = err_from_is_err_and c.from_residual-in_err-check_entries.result c.from_residual-in_err-check_entries.ensures.1 in
    let parcels = c.in_ok-check_parcels.ensures.lines in
    let told = rw c.in_ok-check_parcels.ensures.sizes at c.in_err-check_entries.ensures.lines in
    let n = c.args.self.sizes.parcels in
    let k = told.0 in
    rw (p.1, p.2) (n + k + 1, place (n + k + 2) (n + k + 1 + 1) told.2 (omega arith), λ bs first. wrong_entry first parcels.0 parcels.2 parcels.1 k told.1 told.3)

pub returns-then-not-is_at_end : goal.returns-then-not-is_at_end
returns-then-not-is_at_end g c =
    let parcels = c.in_ok-check_parcels.ensures.lines in
    let entries = rw c.in_ok-check_parcels.ensures.sizes at c.in_ok-check_entries.ensures.lines in
    let sizes = c.in_ok-check_entries.ensures.sizes ∙ c.in_ok-check_parcels.ensures.sizes in
    let n = c.args.self.sizes.parcels + c.args.self.sizes.entries in (
      n + 1,
      place _ (n + 1 + 1) refl (omega (arith, ap (λ z. z.parcels) sizes, ap (λ z. z.entries) sizes)),
      λ bs first. too_long first parcels.0 parcels.2 parcels.1 entries.0 entries.2 entries.1 (λ end. false≢true (c.if-not-is_at_end.ensures.1 end)),
    )
