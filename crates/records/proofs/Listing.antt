-- The list of recorded pairs, one parcel after another. Assumes nothing.
use Rattle.std.proofs.Common.{◌≡◌, ℕ, ◌+◌, ◌<◌, ◌≤◌, true, false, cond, eqb, ltb, List, [], ◌∷◌, ◌++◌, map, length, Some, None, sum_by, filter, sym, ap, ◌∙◌, ⊎_elim, arith}
use Rattle.std.specs.List.{range_with_len}
use Rattle.std.proofs.lemmas.List.FromFn.{map-range_with_len_more}
use Rattle.std.proofs.lemmas.List.Elements.{filter-append}
use Rattle.std.proofs.lemmas.List.{get_or_past, append-nil, map-id, map_push}
use Rattle.std.proofs.lemmas.List.Sums.{sum_by_push}
use Rattle.std.proofs.lemmas.Bool.{ltb-true, eqb-true, and_parts, cond-true, cond-false, cases_Bool, cases_lt}
use Rattle.matching.specs.Pairs.{Pair}
use Rattle.sheet.specs.Graph.{Graph, parcels, row_end}
use Rattle.records.specs.declared.record.Record.{Record}
use Rattle.records.specs.Records.{state, chosen_place, chosen}
use Rattle.records.specs.Listed.{pairs_up, partner_above, own_pair, pairs_below}

counting_more : (u : ℕ) → range_with_len 0 (u + 1) ≡ range_with_len 0 u ++ u ∷ []
counting_more u = sym (map-id (range_with_len 0 (u + 1))) ∙ map-range_with_len_more (λ x. x) 0 u u (omega arith) ∙ ap (λ us. us ++ u ∷ []) (map-id (range_with_len 0 u))

-- past the records every state reads 0
state_past : (rs : List Record) (u : ℕ) → length rs ≤ u → state rs u ≡ 0
state_past rs u past = ap (λ r. r.state) (get_or_past rs u (record { state = 0; choice = 0 }) past)

module _ {K : Type 0} (t : Graph K) (rs : List Record) where
  -- what the answer of the accessor tells
  pub some_pairs : (u v : ℕ) → Some v ≡ partner_above t rs u → (pairs_up t rs u ≡ true) × (v ≡ chosen t rs u)
  some_pairs u v is =
      ⊎_elim (λ y. (y, let e : Some v ≡ Some (chosen t rs u) = is ∙ cond-true (pairs_up t rs u) _ None y in cc))
      (λ n. let e : Some v ≡ None = is ∙ cond-false (pairs_up t rs u) _ None n in let z : ◌≡◌ {A = ℕ} 0 1 = cc in absurd (omega arith))
      (cases_Bool (pairs_up t rs u))

  pub none_pairs : (u : ℕ) → None ≡ partner_above t rs u → pairs_up t rs u ≡ false
  none_pairs u is =
      ⊎_elim (λ y. let e : None ≡ Some (chosen t rs u) = is ∙ cond-true (pairs_up t rs u) _ None y in let z : ◌≡◌ {A = ℕ} 0 1 = cc in absurd (omega arith))
      (λ n. n) (cases_Bool (pairs_up t rs u))

  -- one parcel more
  kept_more : (u : ℕ) → filter (pairs_up t rs) (range_with_len 0 (u + 1)) ≡ filter (pairs_up t rs) (range_with_len 0 u) ++ cond (pairs_up t rs u) (u ∷ []) []
  kept_more u = ap (filter (pairs_up t rs)) (counting_more u) ∙ filter-append (pairs_up t rs) (range_with_len 0 u) (u ∷ [])

  pub pairs_more_yes : (u : ℕ) → pairs_up t rs u ≡ true → pairs_below t rs (u + 1) ≡ pairs_below t rs u ++ own_pair t rs u ∷ []
  pairs_more_yes u y =
      ap (map (own_pair t rs)) (kept_more u ∙ ap (λ b. filter (pairs_up t rs) (range_with_len 0 u) ++ cond b (u ∷ []) []) y)
      ∙ map_push (own_pair t rs) (filter (pairs_up t rs) (range_with_len 0 u)) u

  pub pairs_more_no : (u : ℕ) → pairs_up t rs u ≡ false → pairs_below t rs (u + 1) ≡ pairs_below t rs u
  pairs_more_no u n =
      ap (map (own_pair t rs)) (kept_more u ∙ ap (λ b. filter (pairs_up t rs) (range_with_len 0 u) ++ cond b (u ∷ []) []) n ∙ append-nil (filter (pairs_up t rs) (range_with_len 0 u)))

  pub pairs_more_some : (u v : ℕ) → Some v ≡ partner_above t rs u → pairs_below t rs (u + 1) ≡ pairs_below t rs u ++ record { lo = u; hi = v } ∷ []
  pairs_more_some u v is =
      let pair = some_pairs u v is in
      pairs_more_yes u pair.0 ∙ ap (λ w. pairs_below t rs u ++ record { lo = u; hi = w } ∷ []) (sym pair.1)

  pub pairs_more_none : (u : ℕ) → None ≡ partner_above t rs u → pairs_below t rs (u + 1) ≡ pairs_below t rs u
  pairs_more_none u is = pairs_more_no u (none_pairs u is)

  -- how many there are then
  -- where the entry stands that u chose
  pub record UpFacts (u : ℕ) : Type 0 where
    pub parcel : u < parcels t
    pub recorded : u < length rs
    pub within : chosen_place t rs u < row_end t u

  pub up_facts : length t.starts ≡ parcels t + 1 → (u : ℕ) → pairs_up t rs u ≡ true → UpFacts u
  up_facts long u y =
      let both = and_parts (eqb (state rs u) 2) _ y in
      let within = ltb-true (chosen_place t rs u) (row_end t u) (and_parts (ltb (chosen_place t rs u) (row_end t u)) _ both.1).0 in
      record {
        parcel = ⊎_elim (λ l. l) (λ past. absurd (omega (arith, within, get_or_past t.starts (u + 1) 0 (omega arith)))) (cases_lt u (parcels t));
        recorded = ⊎_elim (λ l. l) (λ past. absurd (omega (arith, state_past rs u past, eqb-true (state rs u) 2 both.0))) (cases_lt u (length rs));
        within = within;
      }

  -- a sum over the list, one parcel more
  pub sum_more : (f : Pair → ℕ) (u : ℕ) → sum_by f (pairs_below t rs (u + 1)) ≡ sum_by f (pairs_below t rs u) + cond (pairs_up t rs u) (f (own_pair t rs u)) 0
  sum_more f u =
      ⊎_elim
      (λ y. ap (sum_by f) (pairs_more_yes u y) ∙ sum_by_push f (pairs_below t rs u) (own_pair t rs u) ∙ ap (λ b. sum_by f (pairs_below t rs u) + cond b (f (own_pair t rs u)) 0) (sym y))
      (λ n. let none : cond {A = ℕ} (pairs_up t rs u) (f (own_pair t rs u)) 0 ≡ 0 = ap (λ b. cond b (f (own_pair t rs u)) 0) n in omega (arith, ap (sum_by f) (pairs_more_no u n)))
      (cases_Bool (pairs_up t rs u))
