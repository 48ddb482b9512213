-- The numbers of the refusals. Assumes nothing.
use Rattle.std.specs.Prelude.{ℕ}
use Rattle.faults.specs.declared.Refusal.{Refusal}
use Rattle.faults.specs.declared.Refusal.TheVariants.{Line, Size, Room, Parcel, Entry, Mirror, Alike, Edition, NoParcel, NoStore, LineUnfit, WrongLength, Started, NothingWaits, StrayNote, Astray, NoRoom, Unsettled}

-- the number that a refusal answers
abbrev pub number : Refusal → ℕ
number Line = 1
number Size = 2
number Room = 3
number Parcel = 4
number Entry = 5
number Mirror = 6
number Alike = 7
number Edition = 8
number NoParcel = 9
number NoStore = 10
number LineUnfit = 11
number WrongLength = 12
number Started = 13
number NothingWaits = 14
number StrayNote = 15
number Astray = 16
number NoRoom = 17
number Unsettled = 18
