-- The greedy pairing takes no pair twice, so it is a pairing. Assumes nothing.
use Rattle.std.proofs.Common.{ℕ, zero, suc, Bool, not, List, [], ◌∷◌, length, sym, subst, inl, inr}
use Rattle.std.proofs.lemmas.Bool.{both_ways, not-true}
use Rattle.matching.specs.Pairs.{Pair, touch, ◌∈◌, Ordered}
use Rattle.matching.specs.Greedy.{top, clear_of, greedy_in, greedy}
use Rattle.matching.specs.Half.{Once, Pairing}
use Rattle.matching.proofs.Members.{touch_self, kept_was}
use Rattle.matching.proofs.Greedy.{top_in, greedy_stable}

module _ (above : Pair → Pair → Bool) (ord : Ordered above) where
  taken_from : (n : ℕ) (ps : List Pair) (q : Pair) → q ∈ greedy_in n above ps → q ∈ ps
  taken_from zero ps q m = absurd m
  taken_from (suc n) [] q m = absurd m
  taken_from (suc n) (p ∷ ps) q (inl is) = subst (λ x. x ∈ (p ∷ ps)) (sym is) (top_in above ord p ps)
  taken_from (suc n) (p ∷ ps) q (inr m) = let t = top above p ps in (kept_was (λ x. not (touch t x)) (p ∷ ps) q (taken_from n (clear_of t (p ∷ ps)) q m)).0

  once_in : (n : ℕ) (ps : List Pair) → Once (greedy_in n above ps)
  once_in zero ps = tt
  once_in (suc n) [] = tt
  once_in (suc n) (p ∷ ps) =
      let t = top above p ps in (
        λ m. both_ways (touch t t) (not-true (touch t t) (kept_was (λ x. not (touch t x)) (p ∷ ps) t (taken_from n (clear_of t (p ∷ ps)) t m)).1) (touch_self t),
        once_in n (clear_of t (p ∷ ps)),
      )

  pub greedy_is_pairing : (ps : List Pair) → Pairing ps (greedy above ps)
  greedy_is_pairing ps = record { within = (greedy_stable above ps ord).within; apart = (greedy_stable above ps ord).apart; once = once_in (length ps) ps }
