-- A ranking of keys that may be missing keeps the laws too. Assumes nothing.
use Rattle.std.proofs.Common.{◌≡◌, Bool, true, false, Some, None, Option, refl}
use Rattle.std.proofs.lemmas.Bool.{true≢false, false≢true}
use Rattle.ranking.specs.Law.{Lawful, lifted}

module _ {K : Type 0} (atleast : K → K → Bool) (laws : Lawful atleast) where
  total : (a b : Option K) → lifted atleast a b ≡ false → lifted atleast b a ≡ true
  total None None e = refl
  total None (Some b) e = refl
  total (Some a) None e = absurd (true≢false e)
  total (Some a) (Some b) e = laws.total a b e

  trans : (a b c : Option K) → lifted atleast a b ≡ true → lifted atleast b c ≡ true → lifted atleast a c ≡ true
  trans None b None e f = refl
  trans (Some a) b None e f = refl
  trans None None (Some c) e f = f
  trans None (Some b) (Some c) e f = e
  trans (Some a) None (Some c) e f = absurd (false≢true f)
  trans (Some a) (Some b) (Some c) e f = laws.trans a b c e f

  pub lifted_lawful : Lawful (lifted atleast)
  lifted_lawful = record { total = total; trans = trans }
