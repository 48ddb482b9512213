-- The memory that a pairing works in, as its records, its worklist and how many that lists. Assumes nothing.
use Rattle.std.specs.Prelude.{ℕ, Bool}
use Rattle.sheet.specs.Graph.{Graph}
use Rattle.outright.specs.Settling.{Ready, Settles, Onward}
use Rattle.outright.specs.declared.work.Work.{Work}

-- the memory w is ready: its worklist lists the paired parcels, and its records are kept right
abbrev pub WorkReady : {K : Type 0} → (K → K → Bool) → Graph K → Work → Type 0
WorkReady atleast t w = Ready atleast t w.records.now w.worklist.now w.listed

-- v has settled, and the memory went from w to w'
abbrev pub WorkSettles : {K : Type 0} → (K → K → Bool) → Graph K → ℕ → Work → Work → Type 0
WorkSettles atleast t v w w' = Settles atleast t v w.records.now w.worklist.now w.listed w'.records.now w'.worklist.now w'.listed

-- what stays true as the memory goes from w to w'
abbrev pub WorkOnward : {K : Type 0} → Graph K → Work → Work → Type 0
WorkOnward t w w' = Onward t w.records.now w.worklist.now w.listed w'.records.now w'.worklist.now w'.listed
