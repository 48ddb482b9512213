-- The top candidate of a row, found from its beginning on. Assumes nothing.
use Rattle.std.proofs.Common.{◌≡◌, ℕ, ◌+◌, ◌<◌, ◌≤◌, Bool, true, false, not, ◌&&◌, ◌||◌, ltb, Some, None, Option, sym, ap, ◌∙◌, subst, ⊎_elim, arith, MatchOption}
use Rattle.std.proofs.lemmas.Bool.{both_ways, lt-ltb, cases_eq}
use Rattle.ranking.specs.Law.{Lawful, lifted}
use Rattle.ranking.proofs.Lifted.{lifted_lawful}
use Rattle.sheet.specs.Graph.{Graph, other, key, InRow}
use Rattle.sheet.specs.Check.{Sound, Alike}
use Rattle.pairing.specs.Pairs.{joint}
use Rattle.pairing.specs.Above.{above, entry_above}
use Rattle.pairing.proofs.Compared.{higher}
use Rattle.pairing.proofs.Orders.{row_above}
use Rattle.choosing.specs.Top.{Top, Choice}

-- the order of two entries from the answers alone: pq says whether the key of p is at least as high as that of q
rise : (pq qp b : Bool) → pq ≡ true → b ≡ true → (not qp || ((pq && qp) && b)) ≡ true
rise pq qp b e f = grind arith

strict : (pq qp b : Bool) → qp ≡ false → (not qp || ((pq && qp) && b)) ≡ true
strict pq qp b e = grind arith

module _ {K : Type 0} (atleast : K → K → Bool) (t : Graph K) (stands : ℕ → Bool) (u : ℕ) where
  -- q is the top of the candidates before place p
  pub record Best (p q : ℕ) : Type 0 where
    pub within : InRow t u q
    pub before : q < p
    pub candidate : stands q ≡ true
    pub over : (r : ℕ) → InRow t u r → r < p → stands r ≡ true → (r ≡ q → ⊥) → entry_above atleast t q r ≡ true

  -- what is known of the row before place p
  abbrev pub Sofar : ℕ → Option ℕ → Type 0
  Sofar p None = (r : ℕ) → InRow t u r → r < p → stands r ≡ false
  Sofar p (Some q) = Best p q

module _ {K : Type 0} (atleast : K → K → Bool) (laws : Lawful atleast) (t : Graph K) where
  -- the key of an entry above is at least as high
  pub above_no_lower : (p q : ℕ) → entry_above atleast t p q ≡ true → lifted atleast (key t p) (key t q) ≡ true
  above_no_lower p q = higher (lifted atleast (key t p) (key t q)) (lifted atleast (key t q) (key t p)) (ltb q p) ((lifted_lawful atleast laws).total (key t q) (key t p))

  -- a later entry whose key is at least as high stands above
  later_above : (p q : ℕ) → q < p → lifted atleast (key t p) (key t q) ≡ true → entry_above atleast t p q ≡ true
  later_above p q less e = rise (lifted atleast (key t p) (key t q)) (lifted atleast (key t q) (key t p)) (ltb q p) e (lt-ltb q p less)

  -- and one whose key is not stands below
  lower_below : (p q : ℕ) → lifted atleast (key t p) (key t q) ≡ false → entry_above atleast t q p ≡ true
  lower_below p q e = strict (lifted atleast (key t q) (key t p)) (lifted atleast (key t p) (key t q)) (ltb p q) e

  module _ (stands : ℕ → Bool) (u : ℕ) where
    -- no candidate at p: nothing changes
    pub passed : (p : ℕ) (top : Option ℕ) → stands p ≡ false → Sofar atleast t stands u p top → Sofar atleast t stands u (p + 1) top
    passed p None no-candidate sofar = λ r there less. ⊎_elim (λ e. ap stands e ∙ no-candidate) (λ n. sofar r there (omega arith)) (cases_eq r p)
    passed p (Some q) no-candidate sofar = record {
      within = sofar.within;
      before = omega (arith, sofar.before);
      candidate = sofar.candidate;
      over = λ r there less is n. ⊎_elim (λ e. absurd (both_ways (stands r) (ap stands e ∙ no-candidate) is)) (λ m. sofar.over r there (omega arith) is n) (cases_eq r p);
    }

    -- a candidate whose key is lower: nothing changes
    kept : (p q : ℕ) → lifted atleast (key t p) (key t q) ≡ false → Sofar atleast t stands u p (Some q) → Sofar atleast t stands u (p + 1) (Some q)
    kept p q lower sofar = record {
      within = sofar.within;
      before = omega (arith, sofar.before);
      candidate = sofar.candidate;
      over = λ r there less is n. ⊎_elim (λ e. subst (λ x. entry_above atleast t q x ≡ true) (sym e) (lower_below p q lower)) (λ m. sofar.over r there (omega arith) is n) (cases_eq r p);
    }

    -- a candidate after none, or with a key no lower: it is the top
    taken : (p : ℕ) → InRow t u p → stands p ≡ true → ((r : ℕ) → InRow t u r → r < p → stands r ≡ true → lifted atleast (key t p) (key t r) ≡ true) → Sofar atleast t stands u (p + 1) (Some p)
    taken p here is no_lower = record {
      within = here;
      before = omega arith;
      candidate = is;
      over = λ r there less stands-r n. later_above p r (⊎_elim (λ e. absurd (n e)) (λ m. omega arith) (cases_eq r p)) (no_lower r there (⊎_elim (λ e. absurd (n e)) (λ m. omega arith) (cases_eq r p)) stands-r);
    }

    -- r is what a comparison of p with the top of the earlier ones answers
    abbrev pub Answer : ℕ → Option ℕ → Bool → Type 0
    Answer p top r = MatchOption top (r ≡ true) (λ q. r ≡ lifted atleast (key t p) (key t q))

    pub goes_up : (p : ℕ) (top : Option ℕ) (r : Bool) → InRow t u p → stands p ≡ true → Answer p top r → r ≡ true → Sofar atleast t stands u p top → Sofar atleast t stands u (p + 1) (Some p)
    goes_up p None r here is answer e sofar = taken p here is (λ x there less stands-x. absurd (both_ways (stands x) (sofar x there less) stands-x))
    goes_up p (Some q) r here is answer e sofar =
        let no_lower : lifted atleast (key t p) (key t q) ≡ true = sym answer ∙ e in
        taken p here is
        (λ x there less stands-x.
        ⊎_elim (λ same. subst (λ y. lifted atleast (key t p) (key t y) ≡ true) (sym same) no_lower)
        (λ n. (lifted_lawful atleast laws).trans (key t p) (key t q) (key t x) no_lower (above_no_lower q x (sofar.over x there less stands-x n)))
        (cases_eq x q))

    pub stays : (p : ℕ) (top : Option ℕ) (r : Bool) → Answer p top r → r ≡ false → Sofar atleast t stands u p top → Sofar atleast t stands u (p + 1) top
    stays p None r answer e sofar = absurd (both_ways r e answer)
    stays p (Some q) r answer e sofar = kept p q (sym answer ∙ e) sofar

    pub nothing_yet : (p : ℕ) → ((r : ℕ) → InRow t u r → p ≤ r) → Sofar atleast t stands u p None
    nothing_yet p start r there less = absurd (omega (arith, start r there, less))

    -- where the whole row has been seen the choice is made
    pub all_seen : (p : ℕ) (top : Option ℕ) → ((r : ℕ) → InRow t u r → r < p) → Sofar atleast t stands u p top → Choice atleast t stands u top
    all_seen p None seen sofar = λ r there. sofar r there (seen r there)
    all_seen p (Some q) seen sofar = record { within = sofar.within; candidate = sofar.candidate; over = λ r there. sofar.over r there (seen r there) }

-- where the two keys of every pair rank alike, the top entry's pair stands above the pairs of the other candidates
pub top_above : {K : Type 0} (atleast : K → K → Bool) (laws : Lawful atleast) (t : Graph K) (sound : Sound t) (same : Alike atleast t) (stands : ℕ → Bool) (u p : ℕ)
    → Top atleast t stands u p → (q : ℕ) → InRow t u q → stands q ≡ true → (q ≡ p → ⊥) → above atleast t (joint u (other t p)) (joint u (other t q)) ≡ true
top_above atleast laws t sound same stands u p top q there is n = row_above atleast laws t sound same u p q top.within there ∙ top.over q there is n
