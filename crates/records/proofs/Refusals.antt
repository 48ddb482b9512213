-- Records are right or refused, and in one way only. Assumes nothing.
use Rattle.std.proofs.Common.{◌≡◌, ℕ, ◌<◌, ◌≤◌, true, false, List, length, Some, None, Option, MatchOption, refl, ⊎_elim, sym, subst, zero-le}
use Rattle.std.proofs.lemmas.Bool.{both_ways, cases_order}
use Rattle.sheet.specs.Graph.{Graph, parcels}
use Rattle.records.specs.declared.record.Record.{Record}
use Rattle.records.specs.Records.{astray}
use Rattle.records.specs.Right.{Right, Refused, wrong_length, strays, FirstAstray, Lowest}

module _ {K : Type 0} (t : Graph K) (rs : List Record) where
  pub refused_not_right : {k p : ℕ} → Refused t rs k p → Right t rs → ⊥
  refused_not_right (wrong_length bad) right = bad right.long
  refused_not_right (strays _ first) right = both_ways (astray t rs _) (right.each _ first.parcel) first.wrong

  pub one_first : (u v : ℕ) → FirstAstray t rs u → FirstAstray t rs v → u ≡ v
  one_first u v a b =
      ⊎_elim (λ e. e)
      (⊎_elim (λ l. absurd (both_ways (astray t rs u) (b.before u l) a.wrong)) (λ l. absurd (both_ways (astray t rs v) (a.before v l) b.wrong)))
      (cases_order u v)

  pub one_refusal : {k p l q : ℕ} → Refused t rs k p → Refused t rs l q → (k ≡ l) × (p ≡ q)
  one_refusal (wrong_length _) (wrong_length _) = (refl, refl)
  one_refusal (wrong_length bad) (strays long _) = absurd (bad long)
  one_refusal (strays long _) (wrong_length bad) = absurd (bad long)
  one_refusal (strays _ a) (strays _ b) = (refl, one_first _ _ a b)

  -- what a search of all records finds is the lowest that is astray
  pub lowest_found : (r : Option ℕ) → length rs ≡ parcels t
      → MatchOption r ((u : ℕ) → 0 ≤ u → u < length rs → astray t rs u ≡ false) (λ u. (0 ≤ u) × (u < length rs) × (astray t rs u ≡ true) × ((v : ℕ) → 0 ≤ v → v < u → astray t rs v ≡ false))
      → Lowest t rs r
  lowest_found None long none = λ u l. none u zero-le (subst (λ n. u < n) (sym long) l)
  lowest_found (Some u) long some = record {
    parcel = subst (λ n. u < n) long some.1;
    before = λ v l. some.3 v zero-le l;
    wrong = some.2;
  }
