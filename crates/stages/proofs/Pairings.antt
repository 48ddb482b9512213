-- Outright pairing asks only after the lengths of its tables, which stay. Assumes nothing.
use Rattle.std.proofs.Common.{◌≡◌, ℕ, ◌<◌, ◌≤◌, Bool, List, length, sym, ◌∙◌, subst, arith}
use Rattle.sheet.specs.Graph.{Graph, parcels}
use Rattle.records.specs.declared.record.Record.{Record}
use Rattle.outright.specs.Outright.{Refused, short_worklist, wrong_length, Done}

module _ {K : Type 0} (atleast : K → K → Bool) (t : Graph K) {rs rs₀ : List Record} {work work₀ : List ℕ} (records : length rs ≡ length rs₀) (worklist : length work ≡ length work₀) where
  pub done_from : {rs' : List Record} → Done atleast t rs work rs' → Done atleast t rs₀ work₀ rs'
  done_from d = record { room = subst (λ n. parcels t ≤ n) worklist d.room; long = sym records ∙ d.long; kept = d.kept; entire = d.entire }

  pub refused_from : {k p : ℕ} → Refused t rs work k p → Refused t rs₀ work₀ k p
  refused_from (short_worklist less) = short_worklist (subst (λ n. n < parcels t) worklist less)
  refused_from (wrong_length room un) = wrong_length (subst (λ n. parcels t ≤ n) worklist room) (λ e. un (records ∙ e))

-- what was done once is not refused
pub not_refused : {K : Type 0} (atleast : K → K → Bool) (t : Graph K) {rs rs' : List Record} {work : List ℕ} {k p : ℕ} → Done atleast t rs work rs' → Refused t rs work k p → ⊥
not_refused atleast t d (short_worklist less) = omega (arith, d.room, less)
not_refused atleast t d (wrong_length _ un) = un d.long
