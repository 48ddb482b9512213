-- How large the numbers of a turn get. Assumes nothing.
use Rattle.std.proofs.Common.{ℕ, ◌-◌, ◌<◌, ◌≤◌, not, ◌&&◌, eqb, List, length, get_or, arith}
use Rattle.std.proofs.lemmas.List.Sums.{length-filter, count_by-le-length}
use Rattle.sheet.specs.Graph.{Graph, InRow, parcels, other, row_start, row_end}
use Rattle.sheet.specs.Check.{Sound}
use Rattle.sheet.proofs.Facts.{sized_facts, parcel_facts}
use Rattle.pairing.proofs.Entries.{other_below}
use Rattle.protocol.specs.Marks.{open', open_others, places}
use Rattle.protocol.proofs.Sums.{length_places_from}

module _ {K : Type 0} (t : Graph K) (sound : Sound t) where
  -- a row has few open entries
  pub others_few : (m : List ℕ) (u keep : ℕ) → u < parcels t → length (open_others t m u keep) ≤ 16384
  others_few m u keep parcel =
      omega (arith, length-filter (λ q. open' m q && not (eqb q keep)) (places t u), count_by-le-length (λ q. open' m q && not (eqb q keep)) (places t u), length_places_from (row_end t u - row_start t u) (row_start t u), (parcel_facts t u (sound.parcel u parcel)).within, (sized_facts t sound.sized_right).entries_few)

  -- the store of the parcel that an entry names is one that a line carries notes to
  pub store_low : (u p : ℕ) → InRow t u p → get_or t.stores (other t p) 0 ≤ 63
  store_low u p row = omega (arith, (parcel_facts t (other t p) (sound.parcel (other t p) (other_below t sound u p row))).stored, (sized_facts t sound.sized_right).stores_few)
