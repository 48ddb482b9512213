-- The law of rounds. Assumes nothing.
use Rattle.std.specs.Prelude.{◌≡◌, ℕ, ◌+◌, ◌*◌, ◌<◌, ◌≤◌, Bool, true, false, ◌&&◌, ◌⊎◌, List, [], length, is_some, sum_by, count_by, ◌≢◌, nat_le}
use Rattle.std.specs.List.{range_with_len, AllZip}
use Rattle.std.specs.Option.{option_map, unwrap_or}
use Rattle.ranking.specs.Law.{lifted}
use Rattle.matching.specs.Pairs.{Pair, holds, touch, same, ◌∈◌}
use Rattle.matching.specs.Half.{Pairing}
use Rattle.sheet.specs.Graph.{Graph, parcels, entries}
use Rattle.pairing.specs.Pairs.{joint, sheet_pairs, pair_key}
use Rattle.pairing.specs.Above.{greedy_pairing}
use Rattle.records.specs.Records.{state, astray, RecordsPair, Entire}
use Rattle.records.specs.Listed.{lower_pairs}
use Rattle.protocol.specs.World.{World}
use Rattle.protocol.specs.Turns.{StartAccepted, FetchAccepted}

-- every state is 2 or 3, and no note waits
pub record Settled {K : Type 0} (t : Graph K) (w : World) : Type 0 where
  pub decided : (u : ℕ) → u < parcels t → (state w.records u ≡ 2) ⊎ (state w.records u ≡ 3)
  pub empty : w.waiting ≡ []

-- what a pair is worth where keys have a value: the value of its key
abbrev pub pair_value : {K : Type 0} → (K → ℕ) → Graph K → Pair → ℕ
pair_value value t p = unwrap_or (option_map value (pair_key t p)) 0

-- how many parcels have started: those in states 1 to 3
abbrev pub started : {K : Type 0} → Graph K → World → ℕ
started t w = count_by (λ u. nat_le 1 (state w.records u) && nat_le (state w.records u) 3) (range_with_len 0 (parcels t))

module _ {K : Type 0} (atleast : K → K → Bool) (t : Graph K) (w : World) where
  -- some start or fetch would be accepted
  abbrev pub SomeTurn : Type 0
  SomeTurn = ((u : ℕ) × StartAccepted atleast t w u) ⊎ ((s : ℕ) × FetchAccepted atleast t w s)

  -- a recorded pair that shares a parcel with p, and whose key is at least as high
  pub record Covers (p q : Pair) : Type 0 where
    pub recorded : q ∈ lower_pairs t w.records
    pub shares : touch q p ≡ true
    pub as_high : lifted atleast (pair_key t q) (pair_key t p) ≡ true

  -- one such pair named for each pair of O, none more than twice
  pub record Covered (O : List Pair) : Type 0 where
    pub names : List Pair
    pub each : AllZip Covers O names
    pub twice : (q : Pair) → count_by (same q) names ≤ 2

  -- the law of rounds says all this of the world w
  pub record Law : Type 0 where
    -- a pair recorded at either parcel belongs to the greedy pairing
    pub pair : (u v : ℕ) → RecordsPair t w.records u v → joint u v ∈ greedy_pairing atleast t
    -- a parcel recorded lone is lone there
    pub lone : (u : ℕ) → u < parcels t → state w.records u ≡ 3 → (p : Pair) → p ∈ greedy_pairing atleast t → holds p u ≢ true
    -- a settled round records that pairing entire
    pub entire : Settled t w → Entire t w.records (greedy_pairing atleast t)
    -- no record is out of range
    pub in_range : (u : ℕ) → u < parcels t → astray t w.records u ≡ false
    -- accepted turns = parcels started + notes sent − notes waiting
    pub balance : w.turns + length w.waiting ≡ started t w + w.sent
    -- notes sent never exceed entries
    pub few : w.sent ≤ entries t
    -- some start or fetch would be accepted exactly while the round is unsettled
    pub goes_on : (Settled t w → ⊥) → SomeTurn
    pub stops : SomeTurn → Settled t w → ⊥
    -- more than that: a start of any idle parcel would be accepted, and a fetch for any store of the sheet that a note waits for
    pub starts : (u : ℕ) → u < parcels t → state w.records u ≡ 0 → StartAccepted atleast t w u
    pub fetches : (s : ℕ) → s < t.limit → is_some (w.next s) ≡ true → FetchAccepted atleast t w s
    -- in a settled round, for any other list of sheet pairs with no parcel twice, a recorded pair that shares a parcel and is at least as high can be named for each pair, none more than twice
    pub covered : Settled t w → (O : List Pair) → Pairing (sheet_pairs t) O → Covered O
    -- where keys rank by a number, as by cents, twice the recorded pairs' sum is at least the other list's
    pub half : Settled t w → (value : K → ℕ) → ((a b : K) → atleast a b ≡ nat_le (value b) (value a)) → (O : List Pair) → Pairing (sheet_pairs t) O → sum_by (pair_value value t) O ≤ 2 * sum_by (pair_value value t) (lower_pairs t w.records)
