-- All parcels settle, and those whose choice was paired away settle again. Assumes nothing.
use Rattle.std.proofs.Common.{◌≡◌, ℕ, suc, ◌+◌, ◌<◌, ◌≤◌, Bool, cond, eqb, List, [], ◌∷◌, length, get_or, sym, refl, ap, ◌∙◌, subst, inl, ⊎_elim, arith}
use Rattle.std.proofs.lemmas.List.Sums.{sum_by-cons}
use Rattle.std.proofs.lemmas.Bool.{cases_eq}
use Rattle.ranking.specs.Law.{Lawful}
use Rattle.sheet.specs.Graph.{Graph, parcels, row_end, other, InRow, mirror}
use Rattle.sheet.specs.Check.{Sound}
use Rattle.pairing.proofs.Entries.{mirror_in, mirror_names}
use Rattle.records.specs.Records.{state, chosen_place, chosen}
use Rattle.records.specs.declared.record.Record.{Record}
use Rattle.outright.specs.Pointing.{Settled}
use Rattle.outright.specs.Settling.{paired_count, Ready, Settles, Onward, AllSettled, NoneWaitsAt, AllRenewed}
use Rattle.outright.proofs.Advancing.{settles_ready, settles_self, settles_onward, leaves, stays_idle, onward_on}

none_counted : (rs : List Record) → ((u : ℕ) → state rs u ≡ 0) → paired_count rs ≡ 0
none_counted [] idle = refl
none_counted (r ∷ rs) idle =
    let f : Record → ℕ = λ x. cond (eqb x.state 2) 1 0 in
    let zero : f r ≡ 0 = ap (λ n. cond {A = ℕ} (eqb n 2) 1 0) (idle 0) in
    omega (arith, sum_by-cons f r rs, none_counted rs (λ u. idle (suc u)))

module _ {K : Type 0} (atleast : K → K → Bool) (t : Graph K) where
  -- the parcels below v have settled, and the others have not begun
  pub record Below (v : ℕ) (rs : List Record) (work : List ℕ) (k : ℕ) : Type 0 where
    pub ready : Ready atleast t rs work k
    pub done : (u : ℕ) → u < v → Settled rs u
    pub idle : (u : ℕ) → v ≤ u → state rs u ≡ 0

  -- no parcel that stands in row u before place q waits at u
  pub record Along (u : ℕ) (rs₀ : List Record) (work₀ : List ℕ) (k₀ q : ℕ) (rs : List Record) (work : List ℕ) (k : ℕ) : Type 0 where
    pub ready : Ready atleast t rs work k
    pub onward : Onward t rs₀ work₀ k₀ rs work k
    pub none : (p : ℕ) → InRow t u p → p < q → state rs (other t p) ≡ 1 → chosen t rs (other t p) ≡ u → ⊥

  -- no parcel waits at one of the first i that the worklist lists
  pub record Through (i : ℕ) (rs : List Record) (work : List ℕ) (k : ℕ) : Type 0 where
    pub ready : Ready atleast t rs work k
    pub settled : AllSettled t rs
    pub none : (j : ℕ) → j < i → NoneWaitsAt t rs (get_or work j 0)

  pub below_none : (rs : List Record) (work : List ℕ) → ((u : ℕ) → state rs u ≡ 0) → length rs ≡ parcels t → parcels t ≤ length work → Below 0 rs work 0
  below_none rs work idle long enough =
      let no : (u n : ℕ) → state rs u ≡ n → 0 < n → ⊥ = λ u n e more. omega (arith, e, idle u) in
      record {
        ready = record {
          kept = record {
            long = long;
            best = λ u _ points. absurd (⊎_elim (λ one. no u 1 one (omega arith)) (λ two. no u 2 two (omega arith)) points);
            bare = λ u _ three. absurd (no u 3 three (omega arith));
            both = λ u _ two. absurd (no u 2 two (omega arith));
            answered = λ u q _ two _. absurd (no u 2 two (omega arith));
            unmet = λ u _ one _ _. no u 1 one (omega arith);
          };
          listing = record { counted = sym (none_counted rs idle); only = λ i less. absurd (omega arith); each = λ u two. absurd (no u 2 two (omega arith)) };
          room = enough;
        };
        done = λ u less. absurd (omega arith);
        idle = λ u _. idle u;
      }

module _ {K : Type 0} (atleast : K → K → Bool) (laws : Lawful atleast) (t : Graph K) (sound : Sound t) where
  pub below_more : (v : ℕ) (rs : List Record) (work : List ℕ) (k : ℕ) (rs' : List Record) (work' : List ℕ) (k' : ℕ)
      → Below atleast t v rs work k → v < parcels t → Settles atleast t v rs work k rs' work' k' → Below atleast t (v + 1) rs' work' k'
  below_more v rs work k rs' work' k' below parcel settles =
      let unpaired : state rs v ≡ 2 → ⊥ = λ two. omega (arith, two, below.idle v (omega arith)) in
      let onward = settles_onward atleast laws t sound v parcel rs work k below.ready unpaired rs' work' k' settles in
      record {
        ready = settles_ready atleast laws t sound v parcel rs work k below.ready unpaired rs' work' k' settles;
        done = λ u less. ⊎_elim (λ e. subst (Settled rs') (sym e) (settles_self atleast laws t sound v parcel rs work k below.ready unpaired rs' work' k' settles))
            (λ n. onward.settled u (below.done u (omega arith))) (cases_eq u v);
        idle = λ u more. stays_idle atleast laws t sound v parcel rs work k below.ready unpaired rs' work' k' settles u (λ e. omega arith) (below.idle u (omega arith));
      }

  module _ (u : ℕ) (rs₀ : List Record) (work₀ : List ℕ) (k₀ : ℕ) (paired : state rs₀ u ≡ 2) where
    pub along_passed : (q : ℕ) (rs : List Record) (work : List ℕ) (k : ℕ) → Along atleast t u rs₀ work₀ k₀ q rs work k
        → (state rs (other t q) ≡ 1 → chosen t rs (other t q) ≡ u → ⊥) → Along atleast t u rs₀ work₀ k₀ (q + 1) rs work k
    along_passed q rs work k along not-here = record {
      ready = along.ready;
      onward = along.onward;
      none = λ p there less. ⊎_elim (λ e. subst (λ x. state rs (other t x) ≡ 1 → chosen t rs (other t x) ≡ u → ⊥) (sym e) not-here) (λ n. along.none p there (omega arith)) (cases_eq p q);
    }

    pub along_more : (q : ℕ) (rs : List Record) (work : List ℕ) (k : ℕ) (rs' : List Record) (work' : List ℕ) (k' : ℕ) → Along atleast t u rs₀ work₀ k₀ q rs work k
        → other t q < parcels t → state rs (other t q) ≡ 1 → Settles atleast t (other t q) rs work k rs' work' k' → Along atleast t u rs₀ work₀ k₀ (q + 1) rs' work' k'
    along_more q rs work k rs' work' k' along parcel one settles =
        let v = other t q in
        let unpaired : state rs v ≡ 2 → ⊥ = λ two. omega (arith, one, two) in
        let step = settles_onward atleast laws t sound v parcel rs work k along.ready unpaired rs' work' k' settles in
        let two : state rs u ≡ 2 = along.onward.paired u paired in
        let gone : state rs' v ≡ 1 → chosen t rs' v ≡ u → ⊥ =
        λ waits at-u. leaves atleast laws t sound v parcel rs work k along.ready unpaired rs' work' k' settles waits (ap (state rs) at-u ∙ two) in
        record {
          ready = settles_ready atleast laws t sound v parcel rs work k along.ready unpaired rs' work' k' settles;
          onward = onward_on t rs₀ work₀ k₀ rs work k rs' work' k' along.onward step;
          none = λ p there less. ⊎_elim (λ e. subst (λ x. state rs' (other t x) ≡ 1 → chosen t rs' (other t x) ≡ u → ⊥) (sym e) gone)
              (λ n waits at-u. let was = step.no_new (other t p) waits (ap (state rs) at-u ∙ two) in along.none p there (omega arith) was.0 (was.1 ∙ at-u)) (cases_eq p q);
        }

    pub along_all : (q : ℕ) (rs : List Record) (work : List ℕ) (k : ℕ) → Along atleast t u rs₀ work₀ k₀ q rs work k → row_end t u ≤ q → NoneWaitsAt t rs u
    along_all q rs work k along end x less one at-u =
        let p = chosen_place t rs x in
        let here : InRow t x p = (along.ready.kept.best x less (inl one)).within in
        let m = mirror t x p in
        let back = mirror_names t sound x p here in
        let there : InRow t u m = subst (λ y. InRow t y m) at-u (mirror_in t sound x p here) in
        along.none m there (omega (arith, there.to)) (ap (state rs) back ∙ one) (ap (chosen t rs) back ∙ at-u)

pub through_more : {K : Type 0} (atleast : K → K → Bool) (t : Graph K) (i : ℕ) (rs : List Record) (work : List ℕ) (k : ℕ) (rs' : List Record) (work' : List ℕ) (k' : ℕ) → Through atleast t i rs work k
    → i < k → Ready atleast t rs' work' k' → Onward t rs work k rs' work' k' → NoneWaitsAt t rs' (get_or work i 0) → Through atleast t (i + 1) rs' work' k'
through_more atleast t i rs work k rs' work' k' through less ready onward none = record {
  ready = ready;
  settled = λ u small. onward.settled u (through.settled u small);
  none = λ j small.
      let listed : get_or work' j 0 ≡ get_or work j 0 = onward.listed j (omega arith) in
      ⊎_elim (λ e. subst (NoneWaitsAt t rs') (ap (λ x. get_or work x 0) (sym e) ∙ sym listed) none)
      (λ n x x-less waits at. let there : chosen t rs' x ≡ get_or work j 0 = at ∙ listed in
      let was = onward.no_new x waits (ap (state rs) there ∙ through.ready.listing.only j (omega arith)) in
      through.none j (omega arith) x x-less was.0 (was.1 ∙ there)) (cases_eq j i);
}

pub through_all : {K : Type 0} (atleast : K → K → Bool) (t : Graph K) (i : ℕ) (rs : List Record) (work : List ℕ) (k : ℕ) → Through atleast t i rs work k → k ≤ i → AllRenewed t rs
through_all atleast t i rs work k through end u two x less one at =
    let found = through.ready.listing.each u two in
    through.none found.0 (omega (arith, found.1)) x less one (at ∙ sym found.2)
