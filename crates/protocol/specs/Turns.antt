-- Starts and fetches: when each is accepted, what it does, and with which number and place it is refused. Assumes nothing.
use Rattle.std.specs.Prelude.{◌≡◌, ℕ, ◌+◌, ◌<◌, ◌≤◌, min, Bool, true, false, not, ◌||◌, List, ◌∷◌, ◌++◌, length, Some, None, Ok, Err, Result, ◌==◌, nat_lt, slice_index, slice_set}
use Rattle.std.specs.List.Sorted.{IsPermutation}
use Rattle.faults.specs.declared.Refusal.{Refusal}
use Rattle.faults.specs.Numbers.{number}
use Rattle.line.specs.declared.Note.{Note}
use Rattle.records.specs.declared.record.Record.{Record}
use Rattle.records.specs.Records.{record_of, state, astray}
use Rattle.sheet.specs.Graph.{Graph, parcels, row_end, place_of}
use Rattle.protocol.specs.World.{World, fits, free}
use Rattle.protocol.specs.Steps.{Chooses, Receives}

-- counts have 32 bits, and stay at the most
abbrev pub counted : ℕ → ℕ → ℕ
counted n more = min (n + more) 4294967295

-- what an accepted turn leaves: parcel u has this record and these marks, what was sent waits beside the rest, and both counts went on
pub record Changes (w : World) (u : ℕ) (r : Record) (m : List ℕ) (rest out : List Note) (w' : World) : Type 0 where
  pub records : w'.records ≡ slice_set w.records u r
  pub marks : w'.marks ≡ m
  pub waiting : IsPermutation (out ++ rest) w'.waiting
  pub turns : w'.turns ≡ counted w.turns 1
  pub sent : w'.sent ≡ counted w.sent (length out)
  pub capacity : w'.capacity ≡ w.capacity
  pub parcel_count : w'.parcel_count ≡ w.parcel_count
  pub entry_count : w'.entry_count ≡ w.entry_count
  pub store_count : w'.store_count ≡ w.store_count

module _ {K : Type 0} (atleast : K → K → Bool) (t : Graph K) where
  -- a start of parcel u is accepted: u is idle, and there is room for what it sends when it chooses
  pub record StartAccepted (w : World) (u : ℕ) : Type 0 where
    pub parcel : u < parcels t
    pub fitting : fits t w ≡ true
    pub idle : state w.records u ≡ 0
    pub record' : Record
    pub marks' : List ℕ
    pub out : List Note
    pub chooses : Chooses atleast t u w.marks record' marks' out
    pub room : length out ≤ free w

  -- an accepted start of u: u chooses
  pub record Started (u : ℕ) (w w' : World) : Type 0 where
    pub accepted : StartAccepted w u
    pub changes : Changes w u accepted.record' accepted.marks' w.waiting accepted.out w'

  -- a start of u is refused
  pub data StartRefused (w : World) (u : ℕ) : ℕ → ℕ → Type 0 where
    no_parcel : parcels t ≤ u → StartRefused w u 9 u
    start_sizes : u < parcels t → fits t w ≡ false → StartRefused w u 12 0
    begun : u < parcels t → fits t w ≡ true → 1 ≤ state w.records u → state w.records u ≤ 3 → StartRefused w u 13 u
    start_strays : u < parcels t → fits t w ≡ true → 3 < state w.records u → StartRefused w u 16 u
    start_room : {r : Record} {m : List ℕ} {out : List Note} → u < parcels t → fits t w ≡ true → state w.records u ≡ 0 → Chooses atleast t u w.marks r m out → free w < length out → StartRefused w u 17 u

  -- what a start answers and does
  abbrev pub Start : ℕ → Result (Unit {0}) (Refusal × ℕ) → World → World → Type 0
  Start u (Ok _) w w' = Started u w w'
  Start u (Err f) w w' = StartRefused w u (number f.0) f.1 × (StartAccepted w u → ⊥) × (w' ≡ w)

  -- a note for store s is stray: its addressee is not a parcel of that store, its sender not in the addressee's row, or its kind neither bid nor drop
  abbrev pub stray : ℕ → Note → Bool
  stray s n =
      not (nat_lt n.addressee (parcels t))
      || (not (slice_index t.stores n.addressee == s) || (not (nat_lt (place_of t n.addressee n.sender) (row_end t n.addressee)) || not (n.kind == 1 || n.kind == 2)))

  -- a fetch for store s is accepted: a note waits for it that can be received, and there is room for what that sends
  pub record FetchAccepted (w : World) (s : ℕ) : Type 0 where
    pub store : s < t.limit
    pub fitting : fits t w ≡ true
    pub note : Note
    pub next : w.next s ≡ Some note
    pub comes : stray s note ≡ false
    pub right : astray t w.records note.addressee ≡ false
    pub record' : Record
    pub marks' : List ℕ
    pub out : List Note
    pub receives : Receives atleast t note (record_of w.records note.addressee) w.marks record' marks' out
    pub room : length out ≤ free w + 1

  -- an accepted fetch for s: the note is taken, and its addressee receives it
  pub record Fetched (s : ℕ) (w w' : World) : Type 0 where
    pub accepted : FetchAccepted w s
    pub rest : List Note
    pub taken : IsPermutation (accepted.note ∷ rest) w.waiting
    pub changes : Changes w accepted.note.addressee accepted.record' accepted.marks' rest accepted.out w'

  -- a fetch for s is refused
  pub data FetchRefused (w : World) (s : ℕ) : ℕ → ℕ → Type 0 where
    no_store : t.limit ≤ s → FetchRefused w s 10 s
    fetch_sizes : s < t.limit → fits t w ≡ false → FetchRefused w s 12 0
    nothing : s < t.limit → fits t w ≡ true → w.next s ≡ None → FetchRefused w s 14 s
    stray_note : {n : Note} → s < t.limit → fits t w ≡ true → w.next s ≡ Some n → stray s n ≡ true → FetchRefused w s 15 s
    wrong_record : {n : Note} → s < t.limit → fits t w ≡ true → w.next s ≡ Some n → stray s n ≡ false → astray t w.records n.addressee ≡ true → FetchRefused w s 16 n.addressee
    fetch_room : {n : Note} {r : Record} {m : List ℕ} {out : List Note} → s < t.limit → fits t w ≡ true → w.next s ≡ Some n → stray s n ≡ false → astray t w.records n.addressee ≡ false → Receives atleast t n (record_of w.records n.addressee) w.marks r m out → free w + 1 < length out → FetchRefused w s 17 n.addressee

  -- what a fetch answers and does
  abbrev pub Fetch : ℕ → Result (Unit {0}) (Refusal × ℕ) → World → World → Type 0
  Fetch s (Ok _) w w' = Fetched s w w'
  Fetch s (Err f) w w' = FetchRefused w s (number f.0) f.1 × (FetchAccepted w s → ⊥) × (w' ≡ w)
