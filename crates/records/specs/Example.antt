-- Four parcels in a row, 0 - 1 - 2 - 3, of which the middle two are paired and the others lone. Assumes nothing.
use Rattle.std.specs.Prelude.{◌≡◌, ℕ, true, false, List, [], ◌∷◌}
use Rattle.matching.specs.Pairs.{Pair}
use Rattle.sheet.specs.Graph.{Graph}
use Rattle.pairing.specs.Examples.{row_of_four}
use Rattle.records.specs.declared.record.Record.{Record}
use Rattle.records.specs.Records.{astray, lone_record}
use Rattle.records.specs.Listed.{lower_pairs, lone_count}

-- the sheet with the keys 5, 9 and 7
abbrev sheet : Graph ℕ
sheet = row_of_four 5 9 7

-- the record of a paired parcel with this choice
abbrev paired : ℕ → Record
paired place = record { state = 2; choice = place }

-- the records: the middle two paired, the others lone
abbrev pub middle_paired : List Record
middle_paired = lone_record ∷ paired 1 ∷ paired 0 ∷ lone_record ∷ []

-- the pair of the middle two
abbrev pub middle : Pair
middle = record { lo = 1; hi = 2 }

-- one pair and two lone parcels; the row of parcel 1 has no third entry to choose
abbrev pub RowOfFour : Type 0
RowOfFour =
    (lower_pairs sheet middle_paired ≡ middle ∷ [])
    × (lone_count sheet middle_paired ≡ 2)
    × (astray sheet middle_paired 1 ≡ false)
    × (astray sheet (lone_record ∷ paired 2 ∷ []) 1 ≡ true)
