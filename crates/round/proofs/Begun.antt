-- A parcel that cannot start is refused. Assumes nothing.
use Rattle.std.proofs.Common.{◌≡◌, ℕ, ◌<◌, Bool, true, subst, sym}
use Rattle.faults.specs.declared.Refusal.{Refusal}
use Rattle.faults.specs.Numbers.{number}
use Rattle.records.specs.Records.{state}
use Rattle.sheet.specs.Graph.{Graph, parcels}
use Rattle.protocol.specs.World.{World, fits}
use Rattle.protocol.specs.Turns.{StartRefused, begun, start_strays}
use Rattle.round.specs.Parts.{Unstartable, has_started, out_of_range}

module _ {K : Type 0} (atleast : K → K → Bool) (t : Graph K) (w : World) (u : ℕ) (below : u < parcels t) (fit : fits t w ≡ true) where
  by_number : (k : ℕ) → Unstartable (state w.records u) k → StartRefused atleast t w u k u
  by_number _ (has_started low high) = begun below fit low high
  by_number _ (out_of_range high) = start_strays below fit high

  pub refused_start : (f : Refusal × ℕ) → Unstartable (state w.records u) (number f.0) × (f.1 ≡ u) → StartRefused atleast t w u (number f.0) f.1
  refused_start f why = subst (StartRefused atleast t w u (number f.0)) (sym why.1) (by_number (number f.0) why.0)
