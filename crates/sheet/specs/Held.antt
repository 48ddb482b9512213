-- What a checked sheet holds. Assumes nothing.
use Rattle.sheet.specs.Graph.{Graph}
use Rattle.sheet.specs.View.{graph}
use Rattle.sheet.specs.declared.checked.Sheet.{Sheet}

-- the lists of a checked sheet
abbrev pub held : {K : Type 0} → Sheet K → Graph K
held s = graph s.tables
