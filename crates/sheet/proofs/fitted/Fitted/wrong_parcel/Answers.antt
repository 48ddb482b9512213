use Rattle.std.proofs.Common.{◌≡◌, ℕ, ◌<◌, ◌≤◌, true, false, Some, None, Option, MatchOption, sym, inr, arith, rules}
use Rattle.std.proofs.lemmas.Iterator.{first_from_Range}
use Rattle.sheet.specs.Graph.{Graph, parcels, bare_right, parcel_right}
use Rattle.sheet.specs.Check.{WrongParcel}
use Rattle.sheet.specs.View.{graph}
use Rattle.sheet.proofs.fitted.Fitted.wrong_parcel.Goals as goal

-- what the search among the parcels finds is the first wrong one
first_wrong : {K : Type 0} (t : Graph K) (found : Option ℕ) → bare_right t ≡ true
    → MatchOption found ((k : ℕ) → 0 ≤ k → k < parcels t → parcel_right t k ≡ true) (λ u. (0 ≤ u) × (u < parcels t) × (parcel_right t u ≡ false) × ((k : ℕ) → 0 ≤ k → k < u → parcel_right t k ≡ true))
    → WrongParcel t found
first_wrong t None bare all = record { bare = bare; each = λ v less. all v (omega arith) less }
first_wrong t (Some u) bare first = inr (first.1, record { bare = bare; each = λ v less. first.3 v (omega arith) less }, first.2)

pub returns : goal.returns
returns g c =
    let t = graph c.args.self.now.tables in
    first_wrong t c.find.result (sym c.if-not-bare_right.ensures)
    (first_from_Range _ _ _ c.find.result (λ u. parcel_right t u ≡ false) (λ u. parcel_right t u ≡ true) c.find.ensures.ran (λ x q k. search rules) (λ x q k. search rules))
