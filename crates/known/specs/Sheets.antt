-- Damaged paths, which the check refuses. Assumes nothing.
use Rattle.std.specs.Prelude.{[], ◌∷◌}
use Rattle.ranking.specs.declared.Cents.{Cents}
use Rattle.sheet.specs.Graph.{Graph}
use Rattle.pairing.specs.Examples.{cents, path}

-- the path with 8 in place of 9 in the row of parcel 2
abbrev pub two_keys : Graph Cents
two_keys = record {
  starts = path.starts;
  others = path.others;
  keys = cents 5 ∷ cents 5 ∷ cents 9 ∷ cents 8 ∷ cents 7 ∷ cents 7 ∷ [];
  stores = path.stores;
  editions = path.editions;
  limit = 2;
}

-- the path without the entry of parcel 2 for 1
abbrev pub one_sided : Graph Cents
one_sided = record {
  starts = 0 ∷ 1 ∷ 3 ∷ 4 ∷ 5 ∷ [];
  others = 1 ∷ 0 ∷ 2 ∷ 3 ∷ 2 ∷ [];
  keys = cents 5 ∷ cents 5 ∷ cents 9 ∷ cents 7 ∷ cents 7 ∷ [];
  stores = path.stores;
  editions = path.editions;
  limit = 2;
}

-- the path with parcel 3 valued by another edition
abbrev pub two_editions : Graph Cents
two_editions = record {
  starts = path.starts;
  others = path.others;
  keys = path.keys;
  stores = path.stores;
  editions = 21 ∷ 21 ∷ 21 ∷ 22 ∷ [];
  limit = 2;
}
