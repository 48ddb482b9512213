-- What may be read and written when a parcel settles. Assumes nothing.
use Rattle.std.proofs.Common.{◌≡◌, ℕ, ◌+◌, ◌<◌, ◌≤◌, Bool, List, length, inl, arith}
use Rattle.sheet.specs.Graph.{Graph, parcels, InRow, other}
use Rattle.sheet.specs.Check.{Sound}
use Rattle.pairing.proofs.Entries.{other_below, other_not_own}
use Rattle.choosing.specs.Top.{Top}
use Rattle.records.specs.Records.{state, chosen_place}
use Rattle.records.specs.declared.record.Record.{Record}
use Rattle.outright.specs.Pointing.{free, Kept}
use Rattle.outright.specs.Settling.{Ready}
use Rattle.outright.proofs.Advancing.{room}

-- w has a record, and waits within its row
pub record Reach {K : Type 0} (t : Graph K) (rs : List Record) (w : ℕ) : Type 0 where
  pub its : w < length rs
  pub place : state rs w ≡ 1 → InRow t w (chosen_place t rs w)

pub reach : {K : Type 0} (atleast : K → K → Bool) (t : Graph K) (sound : Sound t) (rs : List Record) (w : ℕ) → Kept atleast t rs → w < parcels t → Reach t rs w
reach atleast t sound rs w kept less = record {
  its = omega (arith, kept.long);
  place = λ one. (kept.best w less (inl one)).within;
}

-- v may be paired with the parcel at its best free entry: it is within reach, and there is room to list both
pub record Meeting {K : Type 0} (t : Graph K) (rs : List Record) (work : List ℕ) (k v p : ℕ) : Type 0 where
  pub reached : Reach t rs (other t p)
  pub fits : state rs (other t p) ≡ 1 → k + 2 ≤ length work

pub meeting : {K : Type 0} (atleast : K → K → Bool) (t : Graph K) (sound : Sound t) (rs : List Record) (work : List ℕ) (k v p : ℕ)
    → Ready atleast t rs work k → (state rs v ≡ 2 → ⊥) → Top atleast t (free t rs) v p → Meeting t rs work k v p
meeting atleast t sound rs work k v p ready unpaired top =
    let w = other t p in
    let reached = reach atleast t sound rs w ready.kept (other_below t sound v p top.within) in
    let mine : v < length rs = omega (arith, top.within.parcel, ready.kept.long) in
    let apart = other_not_own t sound v p top.within in
    record {
      reached = reached;
      fits = λ one. omega (arith, room rs w v reached.its mine apart (λ two. omega (arith, one, two)) unpaired, ready.listing.counted, ready.kept.long, ready.room);
    }
