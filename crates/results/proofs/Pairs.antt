-- The lines of the recorded pairs, one parcel after another. Assumes nothing.
use Rattle.std.proofs.Common.{◌≡◌, ℕ, zero, suc, ◌+◌, ◌-◌, ◌≤◌, cond, List, [], ◌∷◌, ◌++◌, length, Some, None, sum_by, sym, refl, ap, ◌∙◌, subst, add-one, ⊎_elim, arith}
use Rattle.std.specs.List.{flat_map, range_with_len}
use Rattle.std.proofs.lemmas.List.{flat_map_more, length-append, map-id}
use Rattle.std.proofs.lemmas.List.FromFn.{sum_by-map-range_with_len_more}
use Rattle.std.proofs.lemmas.Bool.{cases_Bool}
use Rattle.matching.specs.Pairs.{Pair}
use Rattle.sheet.specs.Graph.{Graph}
use Rattle.records.specs.declared.record.Record.{Record}
use Rattle.records.specs.Listed.{pairs_up, partner_above, own_pair, pairs_below}
use Rattle.records.proofs.Listing.{sum_more, pairs_more_yes, pairs_more_no, pairs_more_some, pairs_more_none}
use Rattle.results.specs.Text.{pair_line}

module _ {K : Type 0} (t : Graph K) (rs : List Record) where
  -- the lines of the parcels below n
  abbrev pub lines_below : ℕ → List ℕ
  lines_below n = flat_map pair_line (pairs_below t rs n)

  push : (ps : List Pair) (p : Pair) → flat_map pair_line (ps ++ p ∷ []) ≡ flat_map pair_line ps ++ pair_line p
  push ps p = sym (flat_map_more pair_line [] ps p)

  pub lines_more_some : (u v : ℕ) → Some v ≡ partner_above t rs u → lines_below (u + 1) ≡ lines_below u ++ pair_line (record { lo = u; hi = v })
  lines_more_some u v is = ap (flat_map pair_line) (pairs_more_some t rs u v is) ∙ push (pairs_below t rs u) (record { lo = u; hi = v })

  pub lines_more_none : (u : ℕ) → None ≡ partner_above t rs u → lines_below (u + 1) ≡ lines_below u
  lines_more_none u is = ap (flat_map pair_line) (pairs_more_none t rs u is)

  longer : (u : ℕ) → length (lines_below u) ≤ length (lines_below (u + 1))
  longer u =
      ⊎_elim
      (λ y. let more = ap (λ ps. length (flat_map pair_line ps)) (pairs_more_yes t rs u y) in omega (arith, ap length (push (pairs_below t rs u) (own_pair t rs u)), length-append (lines_below u) (pair_line (own_pair t rs u))))
      (λ n. let same = ap (λ ps. length (flat_map pair_line ps)) (pairs_more_no t rs u n) in omega arith)
      (cases_Bool (pairs_up t rs u))

  longer_by : (k u : ℕ) → length (lines_below u) ≤ length (lines_below (u + k))
  longer_by zero u = let e : u ≡ u + 0 = omega arith in subst (λ n. length (lines_below u) ≤ length (lines_below n)) e (omega arith)
  longer_by (suc k) u =
      let e : u + k + 1 ≡ u + suc k = omega arith in
      subst (λ n. length (lines_below u) ≤ length (lines_below n)) e (omega (arith, longer_by k u, longer (u + k)))

  pub lines_longer : (u n : ℕ) → u ≤ n → length (lines_below u) ≤ length (lines_below n)
  lines_longer u n less = let e : u + (n - u) ≡ n = omega arith in subst (λ m. length (lines_below u) ≤ length (lines_below m)) e (longer_by (n - u) u)

  -- what parcel u adds to a sum over the recorded pairs
  abbrev pub share : (Pair → ℕ) → ℕ → ℕ
  share f u = cond (pairs_up t rs u) (f (own_pair t rs u)) 0

  -- summed over the parcels, that is the sum over the pairs
  pub shares_summed : (f : Pair → ℕ) (n : ℕ) → sum_by (share f) (range_with_len 0 n) ≡ sum_by f (pairs_below t rs n)
  shares_summed f zero = refl
  shares_summed f (suc n) =
      let us = range_with_len 0 in
      subst (λ k. sum_by (share f) (us k) ≡ sum_by f (pairs_below t rs k)) (add-one n)
      (omega (
        arith,
        ap (sum_by (share f)) (map-id (us n)),
        ap (sum_by (share f)) (map-id (us (n + 1))),
        sum_by-map-range_with_len_more (share f) (λ u. u) 0 n n (omega arith),
        shares_summed f n,
        sum_more t rs f n,
      ))
