use Rattle.std.proofs.Common.{◌≡◌, ◌+◌, ◌≤◌, List, map, length}
use Rattle.text.specs.Parts.{left}
use Rattle.reading.specs.Listing.{Entry, key_of}
use Rattle.reading.specs.Outcome.{laid, SameSlices}
use Rattle.reading.specs.Passing.{Entries}
use Rattle.reading.proofs.Starts.{Started}
use Rattle.reading.proofs.Passed.{row_of, last}
use Rattle.reading.proofs.TablesMut.fill_entries.Given as goal

abbrev pub invariant-loop-j : goal.invariant-loop-j
invariant-loop-j g l =
    (xs : List Entry)
    × (length xs ≡ l.j)
    × (last (map row_of xs) ≡ l.low)
    × (l.started ≤ l.low + 1)
    × (l.started ≤ l.sizes.parcels)
    × Entries g.K.Ranking.fields l.sizes.parcels xs (left l.initial.body.lines) (left l.body.lines)
    × Started l.initial.self.starts.now l.self.starts.now xs l.started
    × (l.self.others.now ≡ laid (map (λ x. x.other) xs) l.initial.self.others.now)
    × (l.self.keys.now ≡ laid (map (key_of g.K.Ranking.made) xs) l.initial.self.keys.now)
    × (l.self.stores.now ≡ l.initial.self.stores.now)
    × (l.self.editions.now ≡ l.initial.self.editions.now)
    × SameSlices l.initial.self l.self
