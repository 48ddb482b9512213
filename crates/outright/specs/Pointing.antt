-- Parcels that point at an entry of their row: what outright pairing keeps true of the records. Assumes nothing.
use Rattle.std.specs.Prelude.{◌≡◌, ℕ, ◌<◌, Bool, true, not, ◌&&◌, ◌⊎◌, List, length, ◌==◌, ◌≢◌, nat_lt, slice_index}
use Rattle.sheet.specs.Graph.{Graph, parcels, other, InRow, mirror}
use Rattle.pairing.specs.Above.{entry_above}
use Rattle.records.specs.Records.{state, choice, chosen_place, chosen, RecordsPair}
use Rattle.records.specs.declared.record.Record.{Record}

-- the parcel that stands at place p is not yet paired
abbrev pub unpaired_at : List ℕ → List Record → ℕ → Bool
unpaired_at others rs p = nat_lt p (length others) && not (state rs (slice_index others p) == 2)

-- the entry at place p is free
abbrev pub free : {K : Type 0} → Graph K → List Record → ℕ → Bool
free t = unpaired_at t.others

-- u points at an entry: it waits there, or is paired there
abbrev pub Points : List Record → ℕ → Type 0
Points rs u = (state rs u ≡ 1) ⊎ (state rs u ≡ 2)

-- u points at an entry, or has been found lone
abbrev pub Settled : List Record → ℕ → Type 0
Settled rs u = Points rs u ⊎ (state rs u ≡ 3)

-- the entry at place p of row u stands above every other entry of the row that is free
pub record Best {K : Type 0} (atleast : K → K → Bool) (t : Graph K) (rs : List Record) (u p : ℕ) : Type 0 where
  pub within : InRow t u p
  pub over : (q : ℕ) → InRow t u q → (state rs (other t q) ≢ 2) → (q ≢ p) → entry_above atleast t p q ≡ true

-- what is kept of a lone u: choice 0, and every parcel that its row names is paired
pub record Bare {K : Type 0} (t : Graph K) (rs : List Record) (u : ℕ) : Type 0 where
  pub none : choice rs u ≡ 0
  pub taken : (q : ℕ) → InRow t u q → state rs (other t q) ≡ 2

-- the parcel that entry q of row u names is paired, at an entry above its entry for u
pub record Answered {K : Type 0} (atleast : K → K → Bool) (t : Graph K) (rs : List Record) (u q : ℕ) : Type 0 where
  pub paired : state rs (other t q) ≡ 2
  pub higher : entry_above atleast t (chosen_place t rs (other t q)) (mirror t u q) ≡ true

-- one record for each parcel; who points does so at its best; a lone parcel is bare; a pair is recorded at both parcels; each entry above a paired parcel's choice is answered; and no two that wait point at each other
pub record Kept {K : Type 0} (atleast : K → K → Bool) (t : Graph K) (rs : List Record) : Type 0 where
  pub long : length rs ≡ parcels t
  pub best : (u : ℕ) → u < parcels t → Points rs u → Best atleast t rs u (chosen_place t rs u)
  pub bare : (u : ℕ) → u < parcels t → state rs u ≡ 3 → Bare t rs u
  pub both : (u : ℕ) → u < parcels t → state rs u ≡ 2 → RecordsPair t rs (chosen t rs u) u
  pub answered : (u q : ℕ) → InRow t u q → state rs u ≡ 2 → entry_above atleast t q (chosen_place t rs u) ≡ true → Answered atleast t rs u q
  pub unmet : (u : ℕ) → u < parcels t → state rs u ≡ 1 → state rs (chosen t rs u) ≡ 1 → chosen t rs (chosen t rs u) ≢ u
