-- The pairs of a sheet are strictly ordered, and within a row the order goes by the entries. Assumes nothing.
use Rattle.std.proofs.Common.{◌≡◌, ℕ, Bool, true, false, not, ◌&&◌, ◌||◌, eqb, ltb, ◌⊎◌, sym, refl, ap, ◌∙◌, ⊎_elim, arith}
use Rattle.std.proofs.lemmas.Bool.{lt-ltb, le-ltb, cases_order, cases_Bool}
use Rattle.std.proofs.lemmas.Bool.Decides.{nat_tests}
use Rattle.ranking.specs.Law.{Lawful, lifted}
use Rattle.ranking.proofs.Lifted.{lifted_lawful}
use Rattle.matching.specs.Pairs.{Pair, Ordered}
use Rattle.sheet.specs.Graph.{Graph, other, key, InRow}
use Rattle.sheet.specs.Check.{Sound, Alike}
use Rattle.pairing.specs.Pairs.{joint, pair_key}
use Rattle.pairing.specs.Above.{later, stands_above, above, entry_above}
use Rattle.pairing.proofs.Entries.{row_rises}
use Rattle.pairing.proofs.Keys.{level_same, key_level, itself}

later_not_itself : (a b : ℕ) → (ltb b b || (eqb b b && ltb a a)) ≡ false
later_not_itself a b = grind (arith, nat_tests)

later_passes : (p q r : Pair) → later p q ≡ true → later q r ≡ true → later p r ≡ true
later_passes p q r a b = grind (arith, nat_tests)

later_ranks : (p q : Pair) → later p q ≡ false → later q p ≡ false → p ≡ q
later_ranks p q a b =
    let e : p.lo ≡ q.lo = grind (arith, nat_tests) in
    let f : p.hi ≡ q.hi = grind (arith, nat_tests) in
    λ i. record { lo = e i; hi = f i }

-- the order passes on, from the answers alone: pq says whether the key of p is at least as high as that of q
passes : (pq qp qr rq pr rp one two three : Bool)
    → (qp ≡ false → pq ≡ true) → (rp ≡ true → pq ≡ true → rq ≡ true) → (qr ≡ true → rp ≡ true → qp ≡ true) → (pq ≡ true → qr ≡ true → pr ≡ true) → (one ≡ true → two ≡ true → three ≡ true)
    → (not qp || ((pq && qp) && one)) ≡ true → (not rq || ((qr && rq) && two)) ≡ true → (not rp || ((pr && rp) && three)) ≡ true
passes pq qp qr rq pr false one two three _ _ _ _ _ _ _ = refl
passes pq qp qr rq pr true one two three total up down along lasts first second = grind arith

module _ {X : Type 0} (atleast : X → X → Bool) (laws : Lawful atleast) (key : Pair → X) where
  above_not_itself : (p : Pair) → stands_above atleast key p p ≡ false
  above_not_itself p =
      let e = itself atleast laws (key p) in
      let f : later p p ≡ false = later_not_itself p.lo p.hi in
      rw (e, f)

  above_passes : (p q r : Pair) → stands_above atleast key p q ≡ true → stands_above atleast key q r ≡ true → stands_above atleast key p r ≡ true
  above_passes p q r =
      passes (atleast (key p) (key q)) (atleast (key q) (key p)) (atleast (key q) (key r)) (atleast (key r) (key q)) (atleast (key p) (key r)) (atleast (key r) (key p)) (later p q) (later q r) (later p r)
      (laws.total (key q) (key p)) (laws.trans (key r) (key p) (key q)) (laws.trans (key q) (key r) (key p)) (laws.trans (key p) (key q) (key r)) (later_passes p q r)

  above_ranks : (p q : Pair) → (p ≡ q → ⊥) → (stands_above atleast key p q ≡ true) ⊎ (stands_above atleast key q p ≡ true)
  above_ranks p q other =
      let one = laws.total (key p) (key q) in
      let two = laws.total (key q) (key p) in
      let three : later p q ≡ false → later q p ≡ true = λ low. ⊎_elim (λ e. e) (λ high. absurd (other (later_ranks p q low high))) (cases_Bool (later q p)) in
      let four = cases_Bool (later p q) in
      grind (arith, nat_tests)

  pub stands_above_ordered : Ordered (stands_above atleast key)
  stands_above_ordered = record { not_itself = above_not_itself; passes_on = above_passes; ranks = above_ranks }

-- the order of a sheet's pairs is a strict order that ranks any two
pub above_ordered : {K : Type 0} (atleast : K → K → Bool) (laws : Lawful atleast) (t : Graph K) → Ordered (above atleast t)
above_ordered atleast laws t = stands_above_ordered (lifted atleast) (lifted_lawful atleast laws) (pair_key t)

-- of two pairs of one parcel, the one with the larger other parcel is the later
pub later_joint : (u v w : ℕ) → later (joint u v) (joint u w) ≡ ltb w v
later_joint u v w = grind (arith, nat_tests)

module _ {K : Type 0} (atleast : K → K → Bool) (laws : Lawful atleast) (t : Graph K) (sound : Sound t) (same : Alike atleast t) where
  place_order : (u p q : ℕ) → InRow t u p → InRow t u q → ltb (other t q) (other t p) ≡ ltb q p
  place_order u p q a b =
      ⊎_elim (λ e. ap (λ x. ltb (other t x) (other t p)) (sym e) ∙ le-ltb (other t p) (other t p) (omega arith) ∙ sym (le-ltb q p (omega arith)))
      (⊎_elim
      (λ l. le-ltb (other t q) (other t p) (omega (arith, row_rises t sound u p q a b l)) ∙ sym (le-ltb q p (omega arith)))
      (λ l. lt-ltb (other t q) (other t p) (row_rises t sound u q p b a l) ∙ sym (lt-ltb q p l)))
      (cases_order p q)

  -- within a row, the order of pairs is the order of entries
  pub row_above : (u p q : ℕ) → InRow t u p → InRow t u q → above atleast t (joint u (other t p)) (joint u (other t q)) ≡ entry_above atleast t p q
  row_above u p q a b =
      let lift = lifted_lawful atleast laws in
      let P = joint u (other t p) in
      let Q = joint u (other t q) in
      let kp = key_level atleast laws t sound same u p a in
      let kq = key_level atleast laws t sound same u q b in
      let qp = level_same (lifted atleast) lift (pair_key t Q) (pair_key t P) (key t q) (key t p) kq kp in
      let pq = level_same (lifted atleast) lift (pair_key t P) (pair_key t Q) (key t p) (key t q) kp kq in
      let l = later_joint u (other t p) (other t q) ∙ place_order u p q a b in
      ap (λ b. not b || ((lifted atleast (pair_key t P) (pair_key t Q) && b) && later P Q)) qp
      ∙ ap (λ b. not (lifted atleast (key t q) (key t p)) || ((b && lifted atleast (key t q) (key t p)) && later P Q)) pq
      ∙ ap (λ b. not (lifted atleast (key t q) (key t p)) || ((lifted atleast (key t p) (key t q) && lifted atleast (key t q) (key t p)) && b)) l
