-- The entry that a parcel of a checked sheet chose, and its cents. Assumes nothing.
use Rattle.std.proofs.Common.{◌≡◌, ℕ, ◌+◌, ◌<◌, true, cond, ltb, List, [], ◌∷◌, length, get_or, is_some, Some, None, sum_by, Option, sym, refl, ap, ◌∙◌, subst, inl, inr, ⊎_elim, arith}
use Rattle.std.proofs.lemmas.Option.{slice_get-get_or}
use Rattle.std.proofs.lemmas.List.Sums.{sum_by-cons}
use Rattle.std.proofs.lemmas.Bool.{cond-true, cases_Bool, and_from, lt-ltb, true≢false}
use Rattle.ranking.specs.declared.Cents.{Cents}
use Rattle.matching.specs.Pairs.{Pair, ◌∈◌}
use Rattle.sheet.specs.Graph.{Graph, InRow, parcels, place_at}
use Rattle.sheet.specs.Check.{Sound}
use Rattle.sheet.specs.View.{graph}
use Rattle.sheet.specs.Held.{held}
use Rattle.sheet.specs.declared.tables.Tables.{Tables}
use Rattle.sheet.specs.declared.checked.Sheet.{Sheet}
use Rattle.sheet.proofs.Facts.{fitted_facts, parcel_facts}
use Rattle.sheet.proofs.Held.{held_sound}
use Rattle.pairing.specs.Pairs.{joint, pair_key}
use Rattle.pairing.specs.Theorems.{cents_of, pair_cents}
use Rattle.pairing.proofs.Members.{joint_up}
use Rattle.pairing.proofs.Keys.{key_up}
use Rattle.records.specs.declared.record.Record.{Record}
use Rattle.records.specs.Records.{choice, chosen_place, chosen}
use Rattle.records.specs.Listed.{pairs_up, partner_above, own_pair, lower_pairs}
use Rattle.records.proofs.Listing.{up_facts}
use Rattle.records.proofs.Laws.{pairs_listed}
use Rattle.results.proofs.Pairs.{share}
use Rattle.results.specs.Worth.{chosen_cents}

-- whether there is a partner is whether u records such a pair
some_is : {K : Type 0} (t : Graph K) (rs : List Record) (u : ℕ) → is_some (partner_above t rs u) ≡ pairs_up t rs u
some_is t rs u =
    ⊎_elim
    (λ y. ap (λ b. is_some (cond b (Some (chosen t rs u)) None)) y ∙ sym y)
    (λ n. ap (λ b. is_some (cond b (Some (chosen t rs u)) None)) n ∙ sym n)
    (cases_Bool (pairs_up t rs u))

-- the entry that u chose has a key
keyed : {K : Type 0} (s : Sheet K) (rs : List Record) (u : ℕ) → pairs_up (held s) rs u ≡ true → chosen_place (held s) rs u < length (held s).keys
keyed s rs u y =
    let t = held s in
    let fit = fitted_facts t (held_sound s).fitted_right in
    let up = up_facts t rs fit.starts_long u y in
    let row = parcel_facts t u ((held_sound s).parcel u up.parcel) in
    omega (arith, up.within, row.within, fit.keys_long)

-- u was found to have a partner
pub found_up : {K : Type 0} (t : Graph K) (rs : List Record) (u : ℕ) (r : Option ℕ) → r ≡ partner_above t rs u → is_some r ≡ true → pairs_up t rs u ≡ true
found_up t rs u r is some = sym (some_is t rs u) ∙ ap is_some (sym is) ∙ some

-- where u records a pair, its row has the entry that it chose
placed : {K : Type 0} (s : Sheet K) (rs : List Record) (u : ℕ) → pairs_up (held s) rs u ≡ true → place_at (held s) u (choice rs u) ≡ Some (chosen_place (held s) rs u)
placed s rs u y =
    let t = held s in
    let fit = fitted_facts t (held_sound s).fitted_right in
    let up = up_facts t rs fit.starts_long u y in
    cond-true _ (Some (chosen_place t rs u)) None (and_from (ltb u (parcels t)) _ (lt-ltb _ _ up.parcel) (lt-ltb _ _ up.within))

pub never_none : {K : Type 0} (s : Sheet K) (rs : List Record) (u : ℕ) → pairs_up (held s) rs u ≡ true → None ≡ place_at (held s) u (choice rs u) → ⊥
never_none s rs u up is = true≢false (sym (ap is_some (is ∙ placed s rs u up)))

pub share_read : (s : Sheet Cents) (rs : List Record) (u place : ℕ) (tables : Tables Cents) → tables ≡ s.tables → pairs_up (held s) rs u ≡ true → Some place ≡ place_at (held s) u (choice rs u) → (get_or (graph tables).keys place (record { 0 = 0 })).0 ≡ share (held s) rs (chosen_cents (held s) rs) u
share_read s rs u place tables same up is =
    let t = held s in
    let here : place ≡ chosen_place t rs u = (let e = is ∙ placed s rs u up in cc) in
    subst (λ x. (get_or {A = Cents} (graph x).keys place (record { 0 = 0 })).0 ≡ share t rs (chosen_cents t rs) u) (sym same)
    (ap (λ p. (get_or t.keys p (record { 0 = 0 })).0) here
    ∙ sym (cond-true (pairs_up t rs u) (chosen_cents t rs (own_pair t rs u)) 0 up ∙ ap cents_of (slice_get-get_or t.keys (chosen_place t rs u) (record { 0 = 0 }) (keyed s rs u up))))

-- two measures that agree on the pairs of a list have one sum there
sum_same : (f g : Pair → ℕ) (ps : List Pair) → ((p : Pair) → p ∈ ps → f p ≡ g p) → sum_by f ps ≡ sum_by g ps
sum_same f g [] same = refl
sum_same f g (p ∷ ps) same =
    let here = same p (inl refl) in
    let rest = sum_same f g ps (λ q m. same q (inr m)) in
    sum_by-cons f p ps ∙ ap (λ n. n + sum_by f ps) here ∙ ap (λ n. g p + n) rest ∙ sym (sum_by-cons g p ps)

-- the cents that a recorded pair's lower parcel chose are the pair's
pub chosen_is_pair : (t : Graph Cents) (rs : List Record) → Sound t → sum_by (chosen_cents t rs) (lower_pairs t rs) ≡ sum_by (pair_cents t) (lower_pairs t rs)
chosen_is_pair t rs sound =
    sum_same (chosen_cents t rs) (pair_cents t) (lower_pairs t rs)
    (λ p m.
    let has = (pairs_listed t rs).sound p m in
    let own = has.0 in
    let u = p.lo in
    let within : InRow t u (chosen_place t rs u) = record { parcel = own.parcel; from = omega arith; to = own.within } in
    let up = subst (λ v. u < v) (sym own.with') has.1 in
    let is : joint u (chosen t rs u) ≡ p = joint_up u (chosen t rs u) up ∙ ap (λ v. record { lo = u; hi = v }) own.with' in
    ap cents_of (sym (key_up t sound u (chosen_place t rs u) within up) ∙ ap (pair_key t) is))
