-- Either key of a pair serves: they rank alike. Assumes nothing.
use Rattle.std.proofs.Common.{◌≡◌, ℕ, ◌<◌, Bool, true, ltb, ◌⊎◌, None, sym, ap, ◌∙◌, subst, inl, inr, ⊎_elim, arith}
use Rattle.std.proofs.lemmas.Bool.{lt-ltb, and_parts, cond-true, cases_lt, cases_eq, cases_Bool}
use Rattle.ranking.specs.Law.{Lawful, lifted}
use Rattle.ranking.proofs.Lifted.{lifted_lawful}
use Rattle.sheet.specs.Graph.{Graph, row_end, other, key, InRow, place_of, mirror}
use Rattle.sheet.specs.Check.{Sound, Alike}
use Rattle.pairing.specs.Pairs.{joint, pair_key}
use Rattle.pairing.proofs.Entries.{other_not_own, place_is, mirror_in, mirror_names}
use Rattle.pairing.proofs.Members.{joint_up, joint_back}

-- each is at least as high as the other
pub record Level {X : Type 0} (atleast : X → X → Bool) (a b : X) : Type 0 where
  pub one : atleast a b ≡ true
  pub two : atleast b a ≡ true

pub level_back : {X : Type 0} {atleast : X → X → Bool} {a b : X} → Level atleast a b → Level atleast b a
level_back l = record { one = l.two; two = l.one }

module _ {X : Type 0} (atleast : X → X → Bool) (laws : Lawful atleast) where
  pub itself : (a : X) → atleast a a ≡ true
  itself a = ⊎_elim (λ e. e) (laws.total a a) (cases_Bool (atleast a a))

  -- the answer is the same of keys that rank alike
  pub level_same : (a b c d : X) → Level atleast a c → Level atleast b d → atleast a b ≡ atleast c d
  level_same a b c d first second =
      let to : atleast a b ≡ true → atleast c d ≡ true = λ e. laws.trans c a d first.two (laws.trans a b d e second.one) in
      let from : atleast c d ≡ true → atleast a b ≡ true = λ e. laws.trans a c b first.one (laws.trans c d b e second.two) in
      ⊎_elim (λ e. e ∙ sym (to e)) (λ e. ⊎_elim (λ f. from f ∙ sym f) (λ f. e ∙ sym f) (cases_Bool (atleast c d))) (cases_Bool (atleast a b))

module _ {K : Type 0} (t : Graph K) (sound : Sound t) where
  -- the key of the pair of u and a higher parcel of its row is the entry's
  pub key_up : (u p : ℕ) → InRow t u p → u < other t p → pair_key t (joint u (other t p)) ≡ key t p
  key_up u p within up =
      let v = other t p in
      let e = place_is t sound u p within in
      let inside : ltb (place_of t u v) (row_end t u) ≡ true = lt-ltb (place_of t u v) (row_end t u) (omega (arith, e, within.to)) in
      ap (pair_key t) (joint_up u v up) ∙ cond-true (ltb (place_of t u v) (row_end t u)) (key t (place_of t u v)) None inside ∙ ap (key t) e

  -- the key of a pair is that of the entry in the lower parcel's row
  pub key_either : (u p : ℕ) → InRow t u p → (pair_key t (joint u (other t p)) ≡ key t p) ⊎ (pair_key t (joint u (other t p)) ≡ key t (mirror t u p))
  key_either u p within =
      ⊎_elim (λ l. inl (key_up u p within l))
      (λ l. let v = other t p in
      let q = mirror t u p in
      let back = mirror_names t sound u p within in
      let not_own = other_not_own t sound u p within in
      let up : v < other t q = ⊎_elim (λ e. absurd (not_own e)) (λ n. omega arith) (cases_eq v u) in
      inr (ap (pair_key t) (joint_back u v ∙ ap (joint v) (sym back)) ∙ key_up v q (mirror_in t sound u p within) up))
      (cases_lt u (other t p))

module _ {K : Type 0} (atleast : K → K → Bool) (laws : Lawful atleast) (t : Graph K) (sound : Sound t) (same : Alike atleast t) where
  -- the key of a pair and the key of either of its entries rank alike
  pub key_level : (u p : ℕ) → InRow t u p → Level (lifted atleast) (pair_key t (joint u (other t p))) (key t p)
  key_level u p within =
      let lift = lifted_lawful atleast laws in
      let mine = itself (lifted atleast) lift (key t p) in
      let both = and_parts (lifted atleast (key t p) (key t (mirror t u p))) (lifted atleast (key t (mirror t u p)) (key t p)) (same u p within) in
      ⊎_elim
      (λ e. subst (λ k. Level (lifted atleast) k (key t p)) (sym e) (record { one = mine; two = mine }))
      (λ e. subst (λ k. Level (lifted atleast) k (key t p)) (sym e) (record { one = both.1; two = both.0 }))
      (key_either t sound u p within)
