-- A plan that was carried out is a choice. Assumes nothing.
use Rattle.std.proofs.Common.{◌≡◌, ℕ, ◌+◌, ◌<◌, Bool, List, [], ◌∷◌, ◌++◌, length, sym, refl, ap, ◌∙◌, subst, arith}
use Rattle.std.specs.List.Sorted.{IsPermutation}
use Rattle.std.proofs.lemmas.List.{length-map}
use Rattle.std.proofs.lemmas.List.Sorted.{IsPermutation-refl, IsPermutation-trans}
use Rattle.line.specs.declared.Note.{Note}
use Rattle.records.specs.declared.record.Record.{Record}
use Rattle.records.specs.Records.{lone_record}
use Rattle.sheet.specs.Graph.{Graph, parcels, entries}
use Rattle.sheet.specs.Check.{Sound}
use Rattle.choosing.specs.Top.{Top}
use Rattle.protocol.specs.Marks.{open', bid, drop, open_others}
use Rattle.protocol.specs.Steps.{Chooses, alone, waits, pairs, with_choice}
use Rattle.protocol.proofs.Tops.{can_let_go}
use Rattle.round.specs.Parts.{Planned, sends, LetGo, Chose}
use Rattle.round.specs.declared.choose.Plan.{Plan}
use Rattle.round.specs.declared.choose.Plan.TheVariants.{Alone, Waits, Pairs}
use Rattle.round.proofs.Rows.{shuffled_middle, shuffled_behind}

module _ {K : Type 0} (atleast : K → K → Bool) (t : Graph K) (u : ℕ) (m : List ℕ) (plan : Plan) (planned : Planned atleast t u m plan) (before : List Note) where
  pub chose_alone : plan ≡ Alone → Chose atleast t u m lone_record m before before (sends plan)
  chose_alone is = record { out = []; chooses = alone (subst (Planned atleast t u m) is planned); put = IsPermutation-refl before; many = ap sends (sym is) }

  module _ (p : ℕ) (is : plan ≡ Waits p) where
    pub waits_top : Top atleast t (open' m) u p
    waits_top = (subst (Planned atleast t u m) is planned).0

    pub chose_waits : (r : Record) (after : List Note) → r ≡ with_choice t 1 u p → IsPermutation (bid t u p ∷ before) after → Chose atleast t u m r m before after (sends plan)
    chose_waits r after e put = record { out = bid t u p ∷ []; chooses = subst (λ x. Chooses atleast t u m x m (bid t u p ∷ [])) (sym e) (waits waits_top (subst (Planned atleast t u m) is planned).1); put = put; many = ap sends (sym is) }

  module _ (p n : ℕ) (is : plan ≡ Pairs p n) where
    pub pairs_top : Top atleast t (open' m) u p
    pairs_top = (subst (Planned atleast t u m) is planned).0

    pub pairs_count : sends plan ≡ length (open_others t m u p) + 1
    pairs_count = ap sends is ∙ (subst (Planned atleast t u m) is planned).2

    pub chose_pairs : (r : Record) (m' : List ℕ) (mid after : List Note) → r ≡ with_choice t 2 u p → IsPermutation (bid t u p ∷ before) mid → LetGo t u p m m' mid after → Chose atleast t u m r m' before after (sends plan)
    chose_pairs r m' mid after e put go = record {
      out = bid t u p ∷ go.out;
      chooses = subst (λ x. Chooses atleast t u m x m' (bid t u p ∷ go.out)) (sym e) (pairs pairs_top (subst (Planned atleast t u m) is planned).1 go.go);
      put = IsPermutation-trans (bid t u p ∷ (go.out ++ before)) (go.out ++ (bid t u p ∷ before)) after (shuffled_middle go.out (bid t u p) before) (IsPermutation-trans (go.out ++ (bid t u p ∷ before)) (go.out ++ mid) after (shuffled_behind go.out (bid t u p ∷ before) mid put) go.put);
      many = (let l = ap length go.go.drops ∙ length-map (open_others t m u p) (drop t u) in omega (arith, pairs_count, l));
    }

-- what a plan would come to
pub record Meant {K : Type 0} (atleast : K → K → Bool) (t : Graph K) (u : ℕ) (m : List ℕ) (count : ℕ) : Type 0 where
  pub record' : Record
  pub marks' : List ℕ
  pub out : List Note
  pub chooses : Chooses atleast t u m record' marks' out
  pub many : length out ≡ count

pub meant : {K : Type 0} (atleast : K → K → Bool) (t : Graph K) → Sound t → (u : ℕ) (m : List ℕ) → u < parcels t → length m ≡ entries t → (plan : Plan) → Planned atleast t u m plan → Meant atleast t u m (sends plan)
meant atleast t sound u m parcel long Alone none = record { record' = _; marks' = _; out = _; chooses = alone none; many = refl }
meant atleast t sound u m parcel long (Waits p) planned = record { record' = _; marks' = _; out = _; chooses = waits planned.0 planned.1; many = refl }
meant atleast t sound u m parcel long (Pairs p n) planned =
    let l = length-map (open_others t m u p) (drop t u) in
    record { record' = _; marks' = _; out = _; chooses = pairs planned.0 planned.1 (can_let_go t sound u p parcel m long); many = omega (arith, l, planned.2) }
