-- Entries, the notes along them, and the pairs that they make. Assumes nothing.
use Rattle.std.proofs.Common.{◌≡◌, ℕ, Bool, true, ◌⊎◌, sym, ap, ◌∙◌, subst, inl, inr, ⊎_elim, arith}
use Rattle.std.proofs.lemmas.Bool.Decides.{nat_tests}
use Rattle.line.specs.declared.Note.{Note}
use Rattle.matching.specs.Pairs.{Pair, holds, touch}
use Rattle.sheet.specs.Graph.{Graph, InRow, other, mirror}
use Rattle.sheet.specs.Check.{Sound}
use Rattle.sheet.proofs.Rows.{one_row}
use Rattle.pairing.specs.Pairs.{joint}
use Rattle.pairing.proofs.Entries.{one_place, mirror_in, mirror_names}
use Rattle.pairing.proofs.Members.{joint_back}
use Rattle.protocol.specs.Marks.{bid, drop}
use Rattle.protocol.proofs.Core.{pair_at}

-- which parcels a pair holds
pub joint_holds : (u v x : ℕ) → holds (joint u v) x ≡ true → (x ≡ u) ⊎ (x ≡ v)
joint_holds u v x h = grind (arith, nat_tests)

pub joint_right : (u v : ℕ) → holds (joint u v) v ≡ true
joint_right u v = grind (arith, nat_tests)

-- pairs that touch share a parcel
pub joint_touch : (u v x y : ℕ) → touch (joint x y) (joint u v) ≡ true → ((x ≡ u) ⊎ (x ≡ v)) ⊎ ((y ≡ u) ⊎ (y ≡ v))
joint_touch u v x y h = grind (arith, nat_tests)

module _ {K : Type 0} (t : Graph K) (sound : Sound t) where
  -- an entry is known by its mirror
  pub same_mirror : (u p v q : ℕ) → InRow t u p → InRow t v q → mirror t u p ≡ mirror t v q → (u ≡ v) × (p ≡ q)
  same_mirror u p v q a b e =
      let back = mirror_in t sound v q b in
      let here : InRow t (other t p) (mirror t v q) = subst (InRow t (other t p)) e (mirror_in t sound u p a) in
      let others : other t p ≡ other t q = one_row t sound.parcel (other t p) (other t q) (mirror t v q) here back in
      let rows : u ≡ v = sym (mirror_names t sound u p a) ∙ ap (other t) e ∙ mirror_names t sound v q b in
      (rows, one_place t sound v p q (subst (λ w. InRow t w p) rows a) b others)

  -- an entry is known by its parcel and the one that it names
  pub same_entry : (u p v q : ℕ) → InRow t u p → InRow t v q → u ≡ v → other t p ≡ other t q → p ≡ q
  same_entry u p v q a b rows others = one_place t sound v p q (subst (λ w. InRow t w p) rows a) b others

  -- and so by the notes along it
  pub same_bid : (u p v q : ℕ) → InRow t u p → InRow t v q → bid t u p ≡ bid t v q → (u ≡ v) × (p ≡ q)
  same_bid u p v q a b e = let rows : u ≡ v = ap (λ (n : Note). n.sender) e in (rows, same_entry u p v q a b rows (ap (λ (n : Note). n.addressee) e))

  pub same_drop : (u p v q : ℕ) → InRow t u p → InRow t v q → drop t u p ≡ drop t v q → (u ≡ v) × (p ≡ q)
  same_drop u p v q a b e = let rows : u ≡ v = ap (λ (n : Note). n.sender) e in (rows, same_entry u p v q a b rows (ap (λ (n : Note). n.addressee) e))

  pub no_bid_drop : (u p v q : ℕ) → bid t u p ≡ drop t v q → ⊥
  no_bid_drop u p v q e = let k : ◌≡◌ {A = ℕ} 1 2 = ap (λ (n : Note). n.kind) e in omega arith

  -- the pair of an entry is that of its mirror
  pub mirror_pair : (atleast : K → K → Bool) (u p : ℕ) → InRow t u p → pair_at atleast t (other t p) (mirror t u p) ≡ pair_at atleast t u p
  mirror_pair atleast u p a = ap (joint (other t p)) (mirror_names t sound u p a) ∙ joint_back (other t p) u

  -- an entry of one of two parcels with the pair of another entry
  pub record Side (u : ℕ) (r : Pair) : Type 0 where
    pub place : ℕ
    pub within : InRow t u place
    pub is : joint u (other t place) ≡ r

  -- a pair that touches the pair of an entry is a pair of one of its two parcels
  pub touching : (u p x q : ℕ) → InRow t u p → InRow t x q → touch (joint x (other t q)) (joint u (other t p)) ≡ true → Side u (joint x (other t q)) ⊎ Side (other t p) (joint x (other t q))
  touching u p x q a b h =
      let own : (w : ℕ) → x ≡ w → Side w (joint x (other t q)) = λ w e. record { place = q; within = subst (λ y. InRow t y q) e b; is = ap (λ y. joint y (other t q)) (sym e) } in
      let far : (w : ℕ) → other t q ≡ w → Side w (joint x (other t q)) =
      λ w e. record {
        place = mirror t x q;
        within = subst (λ y. InRow t y (mirror t x q)) e (mirror_in t sound x q b);
        is = ap (λ y. joint y (other t (mirror t x q))) (sym e) ∙ ap (joint (other t q)) (mirror_names t sound x q b) ∙ joint_back (other t q) x;
      } in
      ⊎_elim (⊎_elim (λ e. inl (own u e)) (λ e. inr (own (other t p) e))) (⊎_elim (λ e. inl (far u e)) (λ e. inr (far (other t p) e))) (joint_touch u (other t p) x (other t q) h)
