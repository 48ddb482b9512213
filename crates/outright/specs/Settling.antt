-- One parcel settles: it looks through its row and points at the top free entry. Assumes nothing.
use Rattle.std.specs.Prelude.{◌≡◌, ℕ, ◌+◌, ◌-◌, ◌<◌, ◌≤◌, Bool, false, List, length, count_by, ◌≢◌, nat_eq, slice_index, slice_set}
use Rattle.sheet.specs.Graph.{Graph, parcels, row_start, other, InRow}
use Rattle.choosing.specs.Top.{Top}
use Rattle.records.specs.Records.{state, choice, chosen}
use Rattle.records.specs.declared.record.Record.{Record}
use Rattle.outright.specs.Pointing.{free, Settled, Kept}

-- how many parcels are paired
abbrev pub paired_count : List Record → ℕ
paired_count = count_by (λ r. nat_eq r.state 2)

-- the first k numbers of the worklist are the paired parcels
pub record Listing (rs : List Record) (work : List ℕ) (k : ℕ) : Type 0 where
  pub counted : k ≡ paired_count rs
  pub only : (i : ℕ) → i < k → state rs (slice_index work i) ≡ 2
  pub each : (u : ℕ) → state rs u ≡ 2 → (i : ℕ) × (i < k) × (slice_index work i ≡ u)

-- a worklist with room for every parcel lists the paired ones, and the records are kept right
pub record Ready {K : Type 0} (atleast : K → K → Bool) (t : Graph K) (rs : List Record) (work : List ℕ) (k : ℕ) : Type 0 where
  pub kept : Kept atleast t rs
  pub listing : Listing rs work k
  pub room : parcels t ≤ length work

module _ {K : Type 0} (atleast : K → K → Bool) (t : Graph K) (v : ℕ) where
  -- v has settled: lone, waiting at the top free entry, or paired there with a parcel that waited for v; the two are then put on the worklist
  pub data Settles (rs : List Record) (work : List ℕ) (k : ℕ) (rs' : List Record) (work' : List ℕ) (k' : ℕ) : Type 0 where
    stays_lone : ((q : ℕ) → InRow t v q → free t rs q ≡ false) → rs' ≡ slice_set rs v (record { state = 3; choice = 0 }) → work' ≡ work → k' ≡ k → Settles rs work k rs' work' k'
    waits : (p : ℕ) → Top atleast t (free t rs) v p → (state rs (other t p) ≡ 1 → chosen t rs (other t p) ≢ v)
        → rs' ≡ slice_set rs v (record { state = 1; choice = p - row_start t v }) → work' ≡ work → k' ≡ k → Settles rs work k rs' work' k'
    pairs : (p : ℕ) → Top atleast t (free t rs) v p → state rs (other t p) ≡ 1 → chosen t rs (other t p) ≡ v
        → rs' ≡ slice_set (slice_set rs v (record { state = 2; choice = p - row_start t v })) (other t p) (record { state = 2; choice = choice rs (other t p) })
        → work' ≡ slice_set (slice_set work k v) (k + 1) (other t p) → k' ≡ k + 2 → Settles rs work k rs' work' k'

-- what stays true from one settling to the next
pub record Onward {K : Type 0} (t : Graph K) (rs : List Record) (work : List ℕ) (k : ℕ) (rs' : List Record) (work' : List ℕ) (k' : ℕ) : Type 0 where
  pub more : k ≤ k'
  pub listed : (i : ℕ) → i < k → slice_index work' i ≡ slice_index work i
  pub settled : (u : ℕ) → Settled rs u → Settled rs' u
  pub paired : (u : ℕ) → state rs u ≡ 2 → state rs' u ≡ 2
  -- who waits at a parcel that was paired before, waited there before
  pub no_new : (u : ℕ) → state rs' u ≡ 1 → state rs (chosen t rs' u) ≡ 2 → (state rs u ≡ 1) × (chosen t rs u ≡ chosen t rs' u)

-- every parcel has settled
abbrev pub AllSettled : {K : Type 0} → Graph K → List Record → Type 0
AllSettled t rs = (u : ℕ) → u < parcels t → Settled rs u

-- no parcel waits at u
abbrev pub NoneWaitsAt : {K : Type 0} → Graph K → List Record → ℕ → Type 0
NoneWaitsAt t rs u = (x : ℕ) → x < parcels t → state rs x ≡ 1 → chosen t rs x ≢ u

-- no parcel waits at one that is paired
abbrev pub AllRenewed : {K : Type 0} → Graph K → List Record → Type 0
AllRenewed t rs = (u : ℕ) → state rs u ≡ 2 → NoneWaitsAt t rs u
