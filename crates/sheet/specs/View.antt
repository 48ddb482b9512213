-- What lent tables hold. Assumes nothing.
use Rattle.sheet.specs.Graph.{Graph}
use Rattle.sheet.specs.declared.tables.Tables.{Tables}

-- the lists behind the lent tables
abbrev pub graph : {K : Type 0} → Tables K → Graph K
graph t = record {
  starts = t.starts.now;
  others = t.others.now;
  keys = t.keys.now;
  stores = t.stores.now;
  editions = t.editions.now;
  limit = t.store_count;
}
