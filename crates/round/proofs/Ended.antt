-- A refused close would not have been accepted. Assumes nothing.
use Rattle.std.proofs.Common.{◌≡◌, ℕ, ◌<◌, ◌≤◌, true, false, ltb, ◌⊎◌, List, length, Some, None, Option, MatchOption, inl, inr, ⊎_elim, arith, zero-le}
use Rattle.std.specs.List.{AllWithin, HoldsAt}
use Rattle.std.proofs.lemmas.Bool.{both_ways, cases_eq, ltb-false, or_parts}
use Rattle.records.specs.declared.record.Record.{Record}
use Rattle.records.specs.Records.{state, astray}
use Rattle.records.specs.Right.{Right}
use Rattle.records.specs.Right as records
use Rattle.sheet.specs.Graph.{Graph, parcels}
use Rattle.protocol.specs.World.{World, fits}
use Rattle.protocol.proofs.Holds.{fits_facts}
use Rattle.round.specs.Closing.{CloseRefused, other_sizes, strays, undecided, waiting, Closable, FirstUndecided}

pub not_closable : {K : Type 0} (t : Graph K) (w : World) {k p : ℕ} → CloseRefused t w k p → Closable t w → ⊥
not_closable t w (other_sizes un) c = both_ways _ un c.fitting
not_closable t w (strays _ first) c = both_ways _ (c.right.each _ first.parcel) first.wrong
not_closable t w (undecided _ _ less open' _) c =
    ⊎_elim (λ a. ⊎_elim (λ b. omega (arith, a, b)) (λ b. omega (arith, a, b)) (c.settled.decided _ less)) (λ a. ⊎_elim (λ b. omega (arith, a, b)) (λ b. omega (arith, a, b)) (c.settled.decided _ less)) open'
not_closable t w (waiting _ _ _ some) c = some c.settled.empty

-- records that were refused, though the sizes fit
pub close_strays : {K : Type 0} (t : Graph K) (w : World) {k p : ℕ} → fits t w ≡ true → records.Refused t w.records k p → CloseRefused t w k p
close_strays t w fit (records.wrong_length un) = absurd (un (fits_facts t w fit).records_long)
close_strays t w fit (records.strays _ first) = strays fit first

-- a state above 1 that is in range
pub decided_state : (s : ℕ) → 1 < s → s ≤ 3 → (s ≡ 2) ⊎ (s ≡ 3)
decided_state s low high = ⊎_elim inl (λ n. inr (omega (arith, low, high, n))) (cases_eq s 2)

pub right_state : {K : Type 0} (t : Graph K) (rs : List Record) (u : ℕ) → astray t rs u ≡ false → state rs u ≤ 3
right_state t rs u h = ltb-false 3 (state rs u) (or_parts (ltb 3 (state rs u)) _ h).0

-- what a search of all records finds is the lowest parcel that is idle or waits
pub undecided_found : {K : Type 0} (t : Graph K) (rs : List Record) (r : Option ℕ) → Right t rs
    → MatchOption r (AllWithin (λ x. (x.state ≡ 0 → ⊥) × (x.state ≡ 1 → ⊥)) rs 0 (length rs)) (λ i. (i < length rs) × HoldsAt (λ x. (x.state ≡ 0) ⊎ (x.state ≡ 1)) rs i × AllWithin (λ x. (x.state ≡ 0 → ⊥) × (x.state ≡ 1 → ⊥)) rs 0 i)
    → FirstUndecided t rs r
undecided_found {K} t rs r right h = found r h
  where
    decided : (v : ℕ) → v < parcels t → (state rs v ≡ 0 → ⊥) × (state rs v ≡ 1 → ⊥) → (state rs v ≡ 2) ⊎ (state rs v ≡ 3)
    decided v below other = decided_state (state rs v) (let a = other.0 in let b = other.1 in omega arith) (right_state t rs v (right.each v below))

    found : (r : Option ℕ) → MatchOption r (AllWithin (λ x. (x.state ≡ 0 → ⊥) × (x.state ≡ 1 → ⊥)) rs 0 (length rs)) (λ i. (i < length rs) × HoldsAt (λ x. (x.state ≡ 0) ⊎ (x.state ≡ 1)) rs i × AllWithin (λ x. (x.state ≡ 0 → ⊥) × (x.state ≡ 1 → ⊥)) rs 0 i) → FirstUndecided t rs r
    found None none = λ v below. decided v below (none v (record { state = 0; choice = 0 }) zero-le (omega (arith, below, right.long)))
    found (Some u) some = (
      omega (arith, some.0, right.long),
      some.1 (record { state = 0; choice = 0 }),
      λ v less. decided v (omega (arith, less, some.0, right.long)) (some.2 v (record { state = 0; choice = 0 }) zero-le less),
    )
