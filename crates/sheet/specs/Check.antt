-- What the check answers: the conditions of a checked sheet, and which refusal comes. Assumes nothing.
use Rattle.std.specs.Prelude.{◌≡◌, ℕ, ◌<◌, Bool, true, false, cond, ◌⊎◌, List, [], ◌∷◌, Some, None, Option}
use Rattle.faults.specs.declared.Refusal.{Refusal}
use Rattle.faults.specs.Numbers.{number}
use Rattle.sheet.specs.Graph.{Graph, parcels, InRow, sized, fitted, bare_right, parcel_right, rises, mirrored, sides_alike, one_edition}

-- all that a checked sheet keeps, but for what speaks of the ranking
pub record Sound {K : Type 0} (t : Graph K) : Type 0 where
  pub sized_right : sized t ≡ true
  pub fitted_right : fitted t ≡ true
  pub bare : bare_right t ≡ true
  pub parcel : (u : ℕ) → u < parcels t → parcel_right t u ≡ true
  pub rising : (u p : ℕ) → InRow t u p → rises t u p ≡ true
  pub mirror : (u p : ℕ) → InRow t u p → mirrored t u p ≡ true
  pub edition : (u p : ℕ) → InRow t u p → one_edition t u p ≡ true

-- the two keys of every pair rank alike
abbrev pub Alike : {K : Type 0} → (K → K → Bool) → Graph K → Type 0
Alike atleast t = (u p : ℕ) → InRow t u p → sides_alike atleast t u p ≡ true

-- the check passes: the sheet is sound, and the two keys of every pair rank alike
pub record Passed {K : Type 0} (atleast : K → K → Bool) (t : Graph K) : Type 0 where
  pub sound : Sound t
  pub alike : Alike atleast t

-- the number beside the first test that fails; 0 if none does
abbrev pub first_failed : List (Bool × ℕ) → ℕ
first_failed [] = 0
first_failed (x ∷ xs) = cond x.0 (first_failed xs) x.1

-- the lowest fault of the entry at place p of row u; 0 if it has none
abbrev pub entry_fault : {K : Type 0} → (K → K → Bool) → Graph K → ℕ → ℕ → ℕ
entry_fault atleast t u p = first_failed ((rises t u p, 5) ∷ (mirrored t u p, 6) ∷ (sides_alike atleast t u p, 7) ∷ (one_edition t u p, 8) ∷ [])

-- what the search for an entry's faults answers
abbrev pub OneFault : {K : Type 0} → (K → K → Bool) → Graph K → ℕ → ℕ → Option Refusal → Type 0
OneFault atleast t u p None = entry_fault atleast t u p ≡ 0
OneFault atleast t u p (Some r) = entry_fault atleast t u p ≡ number r

-- every parcel below u is right, and a sheet without parcels is
pub record ParcelsRight {K : Type 0} (t : Graph K) (u : ℕ) : Type 0 where
  pub bare : bare_right t ≡ true
  pub each : (v : ℕ) → v < u → parcel_right t v ≡ true

-- every entry before place p, in row order, is right
abbrev pub EntriesRight : {K : Type 0} → (K → K → Bool) → Graph K → ℕ → Type 0
EntriesRight atleast t p = (v q : ℕ) → InRow t v q → q < p → entry_fault atleast t v q ≡ 0

-- the entry at place p is the first wrong one, and this number is its lowest fault
pub record FirstWrong {K : Type 0} (atleast : K → K → Bool) (t : Graph K) (number p : ℕ) : Type 0 where
  pub row : ℕ
  pub within : InRow t row p
  pub before : EntriesRight atleast t p
  pub lowest : number ≡ entry_fault atleast t row p
  pub wrong : 0 < number

-- parcel u is the first wrong one; a sheet without parcels that has entries is wrong at 0
abbrev pub FirstParcel : {K : Type 0} → Graph K → ℕ → Type 0
FirstParcel t u = ((u ≡ 0) × (bare_right t ≡ false)) ⊎ ((u < parcels t) × ParcelsRight t u × (parcel_right t u ≡ false))

-- the check refuses with this number at this place: a size, a table's length, the first wrong parcel, or else the first wrong entry with its lowest fault
pub data Refused {K : Type 0} (atleast : K → K → Bool) (t : Graph K) : ℕ → ℕ → Type 0 where
  size : sized t ≡ false → Refused atleast t 2 0
  table : sized t ≡ true → fitted t ≡ false → Refused atleast t 3 0
  parcel : {u : ℕ} → sized t ≡ true → fitted t ≡ true → FirstParcel t u → Refused atleast t 4 u
  entry : {k p : ℕ} → sized t ≡ true → fitted t ≡ true → ParcelsRight t (parcels t) → FirstWrong atleast t k p → Refused atleast t k p

-- the same of a fault, by its refusal's number and its place
abbrev pub RefusedWith : {K : Type 0} → (K → K → Bool) → Graph K → Refusal × ℕ → Type 0
RefusedWith atleast t f = Refused atleast t (number f.0) f.1

-- what the search for a wrong parcel answers
abbrev pub WrongParcel : {K : Type 0} → Graph K → Option ℕ → Type 0
WrongParcel t None = ParcelsRight t (parcels t)
WrongParcel t (Some u) = FirstParcel t u

-- what the search for a wrong entry answers
abbrev pub WrongEntry : {K : Type 0} → (K → K → Bool) → Graph K → Option (Refusal × ℕ) → Type 0
WrongEntry atleast t None = (v q : ℕ) → InRow t v q → entry_fault atleast t v q ≡ 0
WrongEntry atleast t (Some f) = FirstWrong atleast t (number f.0) f.1
