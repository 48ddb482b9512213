use Rattle.sheet.specs.Check.{parcel}
use Rattle.sheet.proofs.fitted.Fitted.rows.Goals as goal

pub returns-in-Some : goal.returns-in-Some
returns-in-Some g c = parcel c.args.self.sizes c.args.self.lengths c.in-Some.ensures
