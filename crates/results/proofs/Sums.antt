-- How large the sum along a chain can get, by how many items there are and how large each is. Assumes nothing.
use Rattle.std.proofs.Common.{◌≡◌, ℕ, ◌+◌, ◌-◌, ◌/◌, ◌<◌, ◌≤◌, Option, subst, sym, arith}
use Rattle.std.specs.Fn.{Called}
use Rattle.std.specs.Iterator.Adapters.{map_source, map_callee, map_steps}
use Rattle.std.specs.Iterator.Runs.{WholeRun}
use Rattle.std.specs.List.{fold}
use Rattle.std.specs.declared.iter.Map.{Map}
use Rattle.std.specs.declared.ops.Range.{Range}
use Rattle.std.proofs.iter.Yields.{nat_range_steps}
use Rattle.std.proofs.lemmas.Iterator.{YieldsList-from_range}
use Rattle.std.proofs.lemmas.Iterator.Adapters.{YieldsAtMost, at_most_from_yields_List, fits_from_length}
use Rattle.std.proofs.lemmas.List.FromFn.{length-range_with_len}
use denote.Param.Members.{Mut}

-- a range from 0 on has no more items than its end says
pub range_at_most : {s : Range ℕ} (n most : ℕ) → s ≡ record { start = 0; end = n } → n ≤ most → YieldsAtMost nat_range_steps s most
range_at_most n most is few = at_most_from_yields_List (YieldsList-from_range 0 n n is (omega arith)) (omega (arith, length-range_with_len 0 n, few))

pub sum_most : {S A F : Type 0} {steps : S → Option A → S → Type 0} {s : Map S F} (g : Mut F (A × Unit {0}) ℕ) (f : F) (n top r : ℕ)
    → WholeRun (map_steps steps g) s (λ p. r ≡ fold (λ a x. a + x) 0 p.items) → map_callee s ≡ f → YieldsAtMost steps (map_source s) n → 0 < top
    → ((x : A) (y : ℕ) (q : F) → Called g f (x, tt) y q → (q ≡ f) × (y ≤ (top - 1) / n)) → r < top
sum_most g f n top r run at few some k = subst (λ x. x < top) (sym run.3) (fits_from_length g f n top few at some k run.0 run.0.seen run.1)
