-- Four parcels in a row of which the middle two are paired: what the pair is worth, and the result text. Assumes nothing.
use Rattle.std.specs.Prelude.{◌≡◌, [], ◌∷◌, codes, sum_by}
use Rattle.ranking.specs.Kinds.{cents_key}
use Rattle.ranking.specs.declared.Cents.{Cents}
use Rattle.sheet.specs.Graph.{Graph}
use Rattle.pairing.specs.Examples.{row_of_four}
use Rattle.pairing.specs.Theorems.{pair_cents}
use Rattle.records.specs.Example.{middle_paired, middle}
use Rattle.records.specs.Listed.{lower_pairs}
use Rattle.results.specs.Worth.{chosen_cents}
use Rattle.results.specs.Text.{result_text}

-- the sheet with the keys 5, 9 and 7
abbrev sheet : Graph Cents
sheet = row_of_four (cents_key 5 0) (cents_key 9 0) (cents_key 7 0)

-- the pair is worth 9 cents, and the text has two lines
abbrev pub RowOfFour : Type 0
RowOfFour =
    (sum_by (chosen_cents sheet middle_paired) (lower_pairs sheet middle_paired) ≡ 9)
    × (sum_by (pair_cents sheet) (lower_pairs sheet middle_paired) ≡ 9)
    × (result_text (record { tally = record { pairs = 1; lone = 2 }; sent = 6; turns = 10 }) (middle ∷ []) ≡ codes "1,2,6,10\n1,2\n")
