-- A turn that is refused would not be accepted. Assumes nothing.
use Rattle.std.proofs.Common.{◌≡◌, ℕ, Bool, true, false, not, ◌&&◌, ◌||◌, ltb, List, [], ◌∷◌, map, length, Some, None, sym, refl, ap, ◌∙◌, subst, ⊎_elim, arith}
use Rattle.std.proofs.lemmas.Bool.{both_ways, cases_eq}
use Rattle.std.proofs.lemmas.Bool.Decides.{nat_tests}
use Rattle.line.specs.declared.Note.{Note}
use Rattle.records.specs.declared.record.Record.{Record}
use Rattle.records.specs.Records.{record_of, astray}
use Rattle.ranking.specs.Law.{Lawful, lifted}
use Rattle.ranking.proofs.Lifted.{lifted_lawful}
use Rattle.sheet.specs.Graph.{Graph, key}
use Rattle.choosing.specs.Top.{Top}
use Rattle.protocol.specs.World.{World}
use Rattle.protocol.specs.Marks.{open', bidden, bid, drop, open_others}
use Rattle.protocol.specs.Steps.{Chooses, alone, waits, pairs, Receives, hears, agrees, loses, turns}
use Rattle.protocol.specs.Turns.{StartAccepted, StartRefused, no_parcel, start_sizes, begun, start_strays, start_room, FetchAccepted, FetchRefused, no_store, fetch_sizes, nothing, stray_note, wrong_record, fetch_room, stray}

same_some : (x y : Note) → Some x ≡ Some y → x ≡ y
same_some x y e = cc

some_none : (x : Note) → Some x ≡ None → ⊥
some_none x e = let z : ◌≡◌ {A = ℕ} 0 1 = cc in omega arith

-- from the answers alone: of two entries one at most stands above the other
never_both : (pq qp : Bool) (p q : ℕ) → (pq ≡ false → qp ≡ true) → (not qp || ((pq && qp) && ltb q p)) ≡ true → (not pq || ((qp && pq) && ltb p q)) ≡ true → ⊥
never_both true true p q total a b = grind (arith, nat_tests)
never_both true false p q total a b = grind (arith, nat_tests)
never_both false true p q total a b = grind (arith, nat_tests)
never_both false false p q total a b = both_ways false refl (total refl)

module _ {K : Type 0} (atleast : K → K → Bool) (laws : Lawful atleast) (t : Graph K) where
  -- a row has one top candidate
  pub one_top : (stands : ℕ → Bool) (u p q : ℕ) → Top atleast t stands u p → Top atleast t stands u q → p ≡ q
  one_top stands u p q a b =
      ⊎_elim (λ e. e)
      (λ n. absurd (never_both (lifted atleast (key t p) (key t q)) (lifted atleast (key t q) (key t p)) p q ((lifted_lawful atleast laws).total (key t p) (key t q)) (a.over q b.within b.candidate (λ e. n (sym e))) (b.over p a.within a.candidate n)))
      (cases_eq p q)

  -- what is sent is determined
  pub same_choice : (u : ℕ) (m : List ℕ) {r s : Record} {m' m'' : List ℕ} {out other : List Note} → Chooses atleast t u m r m' out → Chooses atleast t u m s m'' other → out ≡ other
  same_choice u m (alone none) (alone _) = refl
  same_choice u m (alone none) (waits {p} top _) = absurd (both_ways (open' m p) (none p top.within) top.candidate)
  same_choice u m (alone none) (pairs {p} top _ _) = absurd (both_ways (open' m p) (none p top.within) top.candidate)
  same_choice u m (waits {p} top _) (alone none) = absurd (both_ways (open' m p) (none p top.within) top.candidate)
  same_choice u m (waits {p} top un) (waits {p = q} top' _) = ap (λ x. bid t u x ∷ []) (one_top (open' m) u p q top top')
  same_choice u m (waits {p} top un) (pairs {p = q} top' b _) = absurd (both_ways (bidden m p) un (ap (bidden m) (one_top (open' m) u p q top top') ∙ b))
  same_choice u m (pairs {p} top _ _) (alone none) = absurd (both_ways (open' m p) (none p top.within) top.candidate)
  same_choice u m (pairs {p} top b _) (waits {p = q} top' un) = absurd (both_ways (bidden m q) un (ap (bidden m) (sym (one_top (open' m) u p q top top')) ∙ b))
  same_choice u m (pairs {p} top _ go) (pairs {p = q} top' _ go') =
      let e = one_top (open' m) u p q top top' in
      ap (λ l. bid t u p ∷ l) go.drops ∙ ap (λ x. bid t u x ∷ map (drop t u) (open_others t m u x)) e ∙ ap (λ l. bid t u q ∷ l) (sym go'.drops)

  pub same_receipt : (n : Note) (r : Record) (m : List ℕ) {s s' : Record} {m' m'' : List ℕ} {out other : List Note} → Receives atleast t n r m s m' out → Receives atleast t n r m s' m'' other → out ≡ other
  same_receipt n r m (hears _ _) (hears _ _) = refl
  same_receipt n r m (hears _ un) (agrees _ aw _) = absurd (both_ways _ un aw)
  same_receipt n r m (hears k _) (loses l _) = absurd (omega (arith, k, l))
  same_receipt n r m (hears k _) (turns l _ _) = absurd (omega (arith, k, l))
  same_receipt n r m (agrees _ aw _) (hears _ un) = absurd (both_ways _ un aw)
  same_receipt n r m (agrees _ _ go) (agrees _ _ go') = go.drops ∙ sym go'.drops
  same_receipt n r m (agrees k _ _) (loses l _) = absurd (omega (arith, k, l))
  same_receipt n r m (agrees k _ _) (turns l _ _) = absurd (omega (arith, k, l))
  same_receipt n r m (loses k _) (hears l _) = absurd (omega (arith, k, l))
  same_receipt n r m (loses k _) (agrees l _ _) = absurd (omega (arith, k, l))
  same_receipt n r m (loses _ _) (loses _ _) = refl
  same_receipt n r m (loses _ un) (turns _ aw _) = absurd (both_ways _ un aw)
  same_receipt n r m (turns k _ _) (hears l _) = absurd (omega (arith, k, l))
  same_receipt n r m (turns k _ _) (agrees l _ _) = absurd (omega (arith, k, l))
  same_receipt n r m (turns _ aw _) (loses _ un) = absurd (both_ways _ un aw)
  same_receipt n r m (turns _ _ ch) (turns _ _ ch') = same_choice n.addressee _ ch ch'

  pub start_not_accepted : {w : World} {u k p : ℕ} → StartRefused atleast t w u k p → StartAccepted atleast t w u → ⊥
  start_not_accepted (no_parcel past) a = omega (arith, past, a.parcel)
  start_not_accepted (start_sizes _ un) a = both_ways _ un a.fitting
  start_not_accepted (begun _ _ one _) a = omega (arith, one, a.idle)
  start_not_accepted (start_strays _ _ past) a = omega (arith, past, a.idle)
  start_not_accepted {w} {u} (start_room _ _ _ ch over) a = let e = ap length (same_choice u w.marks ch a.chooses) in omega (arith, e, over, a.room)

  pub fetch_not_accepted : {w : World} {s k p : ℕ} → FetchRefused atleast t w s k p → FetchAccepted atleast t w s → ⊥
  fetch_not_accepted (no_store past) a = omega (arith, past, a.store)
  fetch_not_accepted (fetch_sizes _ un) a = both_ways _ un a.fitting
  fetch_not_accepted (nothing _ _ none) a = let e : Some a.note ≡ None = sym a.next ∙ none in some_none _ e
  fetch_not_accepted {w} {s} (stray_note {n} _ _ next bad) a = let e : n ≡ a.note = same_some _ _ (sym next ∙ a.next) in both_ways _ a.comes (subst (λ x. stray atleast t s x ≡ true) e bad)
  fetch_not_accepted {w} (wrong_record {n} _ _ next _ bad) a = let e : n ≡ a.note = same_some _ _ (sym next ∙ a.next) in both_ways _ a.right (subst (λ x. astray t w.records x.addressee ≡ true) e bad)
  fetch_not_accepted {w} (fetch_room {n} {r} {m} {out} _ _ next _ _ rec over) a =
      let e : n ≡ a.note = same_some _ _ (sym next ∙ a.next) in
      let l = ap length (same_receipt a.note (record_of w.records a.note.addressee) w.marks (subst (λ x. Receives atleast t x (record_of w.records x.addressee) w.marks r m out) e rec) a.receives) in
      omega (arith, l, over, a.room)
