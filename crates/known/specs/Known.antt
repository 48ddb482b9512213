-- What is known of small sheets, in one list: their pairings, their refusals, and how rounds on them go. Assumes nothing.
use Rattle.std.specs.Prelude.{◌≡◌, ℕ, ◌*◌, ◌≤◌, Bool, true, ◌⊎◌, List, [], ◌∷◌, length, sum_by, ◌≢◌}
use Rattle.ranking.specs.Kinds.{cents_atleast, staged_atleast}
use Rattle.ranking.specs.declared.Cents.{Cents}
use Rattle.matching.specs.Pairs.{Pair, holds, ◌∈◌}
use Rattle.matching.specs.Half.{Pairing}
use Rattle.sheet.specs.Graph.{Graph, parcels, entries, no_parcels}
use Rattle.sheet.specs.Check.{Passed, Refused}
use Rattle.pairing.specs.Pairs.{joint, sheet_pairs}
use Rattle.pairing.specs.Above.{greedy_pairing}
use Rattle.pairing.specs.Theorems.{pair_cents}
use Rattle.pairing.specs.Examples.{two, path, triangle, ring, finer}
use Rattle.records.specs.declared.record.Record.{Record}
use Rattle.records.specs.Records.{state, chosen, RecordsPair}
use Rattle.records.specs.Totals.{no_totals}
use Rattle.protocol.specs.World.{World}
use Rattle.protocol.specs.Turns.{Started, Fetched, StartRefused}
use Rattle.protocol.specs.History.{Opened, start, fetch, After}
use Rattle.protocol.specs.Law.{started}
use Rattle.round.specs.Closing.{OpenRefused, Closed}
use Rattle.known.specs.Sheets.{two_keys, one_sided, two_editions}

-- a sheet that passes the check, with its greedy pairing in the order taken
pub record PairsAs {K : Type 0} (atleast : K → K → Bool) (t : Graph K) (M : List Pair) : Type 0 where
  pub passes : Passed atleast t
  pub pairing : greedy_pairing atleast t ≡ M

-- parcel u is in no pair of the list
abbrev pub LoneIn : List Pair → ℕ → Type 0
LoneIn M u = (p : Pair) → p ∈ M → holds p u ≢ true

-- the cents of a list of pairs of the path
abbrev pub path_cents : List Pair → ℕ
path_cents M = sum_by (pair_cents path) M

-- the two outer pairs of the path
abbrev pub outer : List Pair
outer = joint 0 1 ∷ joint 2 3 ∷ []

-- the path: its middle pair beats the two outer ones, which together come to more
pub record Middle : Type 0 where
  pub first_lone : LoneIn (greedy_pairing cents_atleast path) 0
  pub last_lone : LoneIn (greedy_pairing cents_atleast path) 3
  pub sum : path_cents (greedy_pairing cents_atleast path) ≡ 9
  pub others : Pairing (sheet_pairs path) outer
  pub other_sum : path_cents outer ≡ 12
  pub twice : path_cents outer ≤ 2 * path_cents (greedy_pairing cents_atleast path)

-- the path after start 1, start 2 and fetch 1: parcel 2 is paired with 1, which still waits for it; 3 turns = 2 parcels started + 3 notes sent − 2 that wait; and 1 cannot be started again
pub record ThreeTurns (w : World) : Type 0 where
  pub paired : RecordsPair path w.records 2 1
  pub waits : state w.records 1 ≡ 1
  pub waits_for : chosen path w.records 1 ≡ 2
  pub turns : w.turns ≡ 3
  pub begun : started path w ≡ 2
  pub sent : w.sent ≡ 3
  pub waiting : length w.waiting ≡ 2
  pub refuses : StartRefused cents_atleast path w 1 13 1

-- that history happens, and whatever line carries the notes it comes to this
pub record ThreeCalls : Type 0 where
  pub happens : (w : World) × After cents_atleast path (fetch 1 ∷ start 2 ∷ start 1 ∷ []) w
  pub comes_to : (a b c d : World) → Opened path a → Started cents_atleast path 1 a b → Started cents_atleast path 2 b c → Fetched cents_atleast path 1 c d → ThreeTurns d

-- the path opens over an empty line of capacity 6, and over one of capacity 5 is refused 11 at 0, whatever the tables hold
pub record SixNotes : Type 0 where
  pub opens : (rs : List Record) (m : List ℕ) → length rs ≡ 4 → length m ≡ 6 → (k p : ℕ) → OpenRefused path rs m [] 6 k p → ⊥
  pub refused : (rs : List Record) (m : List ℕ) → OpenRefused path rs m [] 5 11 0
  pub only : (rs : List Record) (m : List ℕ) (k p : ℕ) → OpenRefused path rs m [] 5 k p → (k ≡ 11) × (p ≡ 0)

-- a size one past a limit
abbrev pub OnePast : Graph Cents → Type 0
OnePast t = (parcels t ≡ 1025) ⊎ ((entries t ≡ 16385) ⊎ ((t.limit ≡ 0) ⊎ (t.limit ≡ 65)))

-- all that is known of the small sheets
pub record KnownSheets : Type 0 where
  -- the empty sheet is settled at open, and close answers 0, 0, 0, 0
  pub empty : PairsAs cents_atleast no_parcels []
  pub empty_closes : (w : World) → Opened {K = Cents} no_parcels w → Closed {K = Cents} no_parcels w no_totals
  -- a key of 0 is a key like any other
  pub pair_at_0 : PairsAs cents_atleast two (joint 0 1 ∷ [])
  -- the highest pair of the path is taken, and leaves the outer parcels lone
  pub middle_of_path : PairsAs cents_atleast path (joint 1 2 ∷ [])
  pub middle : Middle
  -- of equal keys the larger numbers win
  pub equal_three : PairsAs cents_atleast triangle (joint 1 2 ∷ [])
  pub equal_four : PairsAs cents_atleast ring (joint 2 3 ∷ joint 0 1 ∷ [])
  -- the finer band beats more cents
  pub finer_band : PairsAs staged_atleast finer (joint 1 2 ∷ [])
  -- the damaged paths
  pub keys_differ : Refused cents_atleast two_keys 7 2
  pub no_mirror : Refused cents_atleast one_sided 6 2
  pub editions_differ : Refused cents_atleast two_editions 8 4
  -- a round on the path
  pub three_calls : ThreeCalls
  pub six_notes : SixNotes
  -- sizes
  pub one_past : (t : Graph Cents) → OnePast t → Refused cents_atleast t 2 0
