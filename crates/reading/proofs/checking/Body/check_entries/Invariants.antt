use Rattle.std.proofs.Common.{◌≡◌, List, map, length}
use Rattle.text.specs.Parts.{left}
use Rattle.reading.specs.Listing.{Entry}
use Rattle.reading.specs.Passing.{Entries}
use Rattle.reading.proofs.Passed.{row_of, last}
use Rattle.reading.proofs.checking.Body.check_entries.Given as goal

abbrev pub invariant-loop-j : goal.invariant-loop-j
invariant-loop-j g l = (xs : List Entry) × (length xs ≡ l.j) × (last (map row_of xs) ≡ l.low) × Entries g.K.Ranking.fields l.initial.self.sizes.parcels xs (left l.initial.self.lines) (left l.self.lines) × (l.self.sizes ≡ l.initial.self.sizes)
