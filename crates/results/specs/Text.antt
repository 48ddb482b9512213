-- The result text: lines of numbers, byte by byte. Assumes nothing.
use Rattle.std.specs.Prelude.{◌≡◌, ℕ, ◌+◌, ◌<◌, ◌≤◌, List, [], ◌∷◌, ◌++◌, length, take, drop, decimal}
use Rattle.std.specs.List.{flat_map}
use Rattle.matching.specs.Pairs.{Pair}
use Rattle.sheet.specs.Graph.{Graph}
use Rattle.records.specs.declared.record.Record.{Record}
use Rattle.records.specs.declared.ledger.Totals.{Totals}
use Rattle.records.specs.Listed.{lower_pairs}
use Rattle.records.specs.Right.{Right, Refused}

-- a field of a line: a number's decimal digits, and the byte after it
abbrev pub field : ℕ → ℕ → List ℕ
field n after = decimal n ++ after ∷ []

-- the byte after a number: byte 10 if none follows in its line, else a comma (byte 44)
abbrev pub ending : List ℕ → ℕ
ending [] = 10
ending (n ∷ ns) = 44

-- a line: its numbers, each with the byte after it
abbrev pub line : List ℕ → List ℕ
line [] = []
line (n ∷ ns) = field n (ending ns) ++ line ns

-- the line of a pair: the lower parcel, then the higher one
abbrev pub pair_line : Pair → List ℕ
pair_line p = line (p.lo ∷ p.hi ∷ [])

-- the line of the four numbers
abbrev pub totals_line : Totals → List ℕ
totals_line n = line (n.tally.pairs ∷ n.tally.lone ∷ n.sent ∷ n.turns ∷ [])

-- the result text: the line of the four numbers, then one for each pair
abbrev pub result_text : Totals → List Pair → List ℕ
result_text n ps = totals_line n ++ flat_map pair_line ps

-- a buffer with these bytes from place `at` on
abbrev pub put_in : List ℕ → ℕ → List ℕ → List ℕ
put_in buffer at bytes = take at buffer ++ (bytes ++ drop (at + length bytes) buffer)

-- the text was written to the front of the buffer; past it the buffer holds what it held
pub record Printed {K : Type 0} (t : Graph K) (rs : List Record) (n : Totals) (old new : List ℕ) (count : ℕ) : Type 0 where
  pub right : Right t rs
  pub counted : count ≡ length (result_text n (lower_pairs t rs))
  pub fits : count ≤ length old
  pub bytes : new ≡ result_text n (lower_pairs t rs) ++ drop count old

-- the text is refused with this number at this place: the records, or else a buffer shorter than the text
pub data TextRefused {K : Type 0} (t : Graph K) (rs : List Record) (n : Totals) (room : ℕ) : ℕ → ℕ → Type 0 where
  by_records : {k p : ℕ} → Refused t rs k p → TextRefused t rs n room k p
  short : Right t rs → room < length (result_text n (lower_pairs t rs)) → TextRefused t rs n room 3 0
