use Rattle.std.proofs.Common.{refl}
use Rattle.sheet.specs.Check.{entry}
use Rattle.sheet.specs.View.{graph}
use Rattle.sheet.proofs.Verdict.{passes}
use Rattle.sheet.proofs.fitted.Rows.checked.Goals as goal

pub returns-in-Some : goal.returns-in-Some
returns-in-Some g c = entry c.args.self.fitted.sizes c.args.self.fitted.lengths c.args.self.right c.in-Some.ensures

pub invariant_of-result : goal.invariant_of-result
invariant_of-result g c =
    let it = c.args.self in
    let s = (passes g.K.Ranking.atleast (graph it.fitted.tables) it.fitted.sizes it.fitted.lengths it.right c.in-None.ensures).sound in
    record {
      sizes = s.sized_right;
      lengths = s.fitted_right;
      bare = s.bare;
      parcel = s.parcel;
      rising = s.rising;
      mirror = s.mirror;
      edition = s.edition;
    }

pub returns-in-None : goal.returns-in-None
returns-in-None g c =
    let it = c.args.self in
    (passes g.K.Ranking.atleast (graph it.fitted.tables) it.fitted.sizes it.fitted.lengths it.right c.in-None.ensures, refl)
