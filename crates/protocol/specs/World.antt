-- A round at one time: what its calls see. Assumes nothing.
use Rattle.std.specs.Prelude.{ℕ, ◌-◌, Bool, ◌&&◌, List, length, Option, ◌==◌}
use Rattle.line.specs.declared.Note.{Note}
use Rattle.records.specs.declared.record.Record.{Record}
use Rattle.sheet.specs.Graph.{Graph, parcels, entries}

-- the open round, the lent tables and the line, as they stand at one time
pub record World : Type 0 where
  -- the open round: the sizes of the sheet that it was opened on, and its two counts
  pub parcel_count : ℕ
  pub entry_count : ℕ
  pub store_count : ℕ
  pub turns : ℕ
  pub sent : ℕ
  -- the lent tables
  pub records : List Record
  pub marks : List ℕ
  -- the line: what waits in it, how much it holds, and which note a store would be handed
  pub waiting : List Note
  pub capacity : ℕ
  pub next : ℕ → Option Note

-- tables of these two lengths have the sheet's, and a round of these three sizes has its
abbrev pub sizes_fit : {K : Type 0} → Graph K → ℕ → ℕ → ℕ → ℕ → ℕ → Bool
sizes_fit t records_long marks_long parcel_count entry_count store_count =
    (records_long == parcels t)
    && (marks_long == entries t && (parcel_count == parcels t && (entry_count == entries t && store_count == t.limit)))

-- the tables have the sheet's lengths, and the round its sizes
abbrev pub fits : {K : Type 0} → Graph K → World → Bool
fits t w = sizes_fit t (length w.records) (length w.marks) w.parcel_count w.entry_count w.store_count

-- how many notes the line takes
abbrev pub free : World → ℕ
free w = w.capacity - length w.waiting
