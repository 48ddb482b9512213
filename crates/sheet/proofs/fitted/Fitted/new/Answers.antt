use Rattle.std.proofs.Common.{sym}
use Rattle.sheet.specs.Check.{size, table}
use Rattle.sheet.proofs.fitted.Fitted.new.Goals as goal

pub returns-then-not-sizes_right : goal.returns-then-not-sizes_right
returns-then-not-sizes_right g c = size (sym c.if-not-sizes_right.ensures)

pub returns-then-not-lengths_right : goal.returns-then-not-lengths_right
returns-then-not-lengths_right g c = table (sym c.if-not-sizes_right.ensures) (sym c.if-not-lengths_right.ensures)
