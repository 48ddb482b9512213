use Rattle.std.proofs.Common.{rules, ℕ, ◌≡◌, false, Bool, not, length, arith, subst, ap, ◌∙◌, List, ◌<◌}
use Rattle.std.specs.List.{filter}
use Rattle.std.proofs.lemmas.Fn.{filter_same}
use Rattle.std.proofs.lemmas.Bool.Decides.{nat_tests}
use Rattle.all_orders.specs.declared.small.Pair.{Pair}
use Rattle.all_orders.specs.Pairs.{touching}
use Rattle.all_orders.specs.Tops.{pair_at}
use Rattle.all_orders.proofs.Shorter.{shorter}
use Rattle.all_orders.proofs.definition.greedy.Goals as goal

touches_itself : (p : Pair) → not (touching p p) ≡ false
touches_itself p = grind (arith, nat_tests)

pub loop-top-smaller : goal.loop-top-smaller
loop-top-smaller c =
    let top = c.in-Some.top in
    let ps : List Pair = c.loop-top.left.items in
    let test : Pair → Bool = λ p. not (touching p top) in
    let there = subst (λ (qs : List Pair). (k : ℕ) × (k < length qs) × (pair_at qs k ≡ top)) c.as_slice.ensures.value c.in-Some.ensures.0 in
    let fails : test (pair_at ps there.0) ≡ false = ap test there.2 ∙ touches_itself top in
    let kept : c.retain.new.self.items ≡ filter test ps = filter_same _ test _ (λ x b f' k. search rules) _ _ c.retain.ensures.filtered in
    let less = shorter test ps there.0 (record { low = 0; high = 0; cents = 0 }) there.1 fails in
    omega (arith, ap length kept, less)
