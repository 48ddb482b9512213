-- From one settling to the next: the worklist, and what stays. Assumes nothing.
use Rattle.std.proofs.Common.{◌≡◌, ℕ, ◌+◌, ◌-◌, ◌<◌, ◌≤◌, Bool, cond, eqb, ◌⊎◌, List, length, get_or, set, sym, refl, ap, ◌∙◌, subst, inl, inr, ⊎_elim, arith, length-set}
use Rattle.std.proofs.lemmas.List.{get_or-set_same, get_or-set_other}
use Rattle.std.proofs.lemmas.List.Sums.{sum_by-set, count_by-le-length}
use Rattle.std.proofs.lemmas.Bool.{cases_eq, cases_lt, eq-eqb, ne_eqb}
use Rattle.ranking.specs.Law.{Lawful}
use Rattle.sheet.specs.Graph.{Graph, parcels, row_start, other}
use Rattle.sheet.specs.Check.{Sound}
use Rattle.pairing.proofs.Entries.{other_below, other_not_own}
use Rattle.records.specs.Records.{record_of, state, choice, chosen}
use Rattle.records.specs.declared.record.Record.{Record}
use Rattle.outright.specs.Pointing.{Settled, Kept}
use Rattle.outright.specs.Settling.{paired_count, Listing, Ready, Settles, stays_lone, waits, pairs, Onward}
use Rattle.outright.proofs.Changes.{Now, same, lone, waiting, paired, settles_now}
use Rattle.outright.proofs.Keeping.{kept_now, still_paired}

-- the count after one record is written
count_set : (rs : List Record) (v : ℕ) (r : Record) → v < length rs → (state rs v ≡ 2 → ⊥) → paired_count (set rs v r) ≡ paired_count rs + cond (eqb r.state 2) 1 0
count_set rs v r less unpaired =
    let f : Record → ℕ = λ x. cond (eqb x.state 2) 1 0 in
    let e = sum_by-set f rs v r (record { state = 0; choice = 0 }) less in
    let none : f (record_of rs v) ≡ 0 = ap (λ b. cond {A = ℕ} b 1 0) (ne_eqb (state rs v) 2 unpaired) in
    omega arith

settles_long : {K : Type 0} (atleast : K → K → Bool) (t : Graph K) (v : ℕ) (rs : List Record) (work : List ℕ) (k : ℕ) (rs' : List Record) (work' : List ℕ) (k' : ℕ)
    → Settles atleast t v rs work k rs' work' k' → length rs' ≡ length rs
settles_long atleast t v rs work k rs' work' k' (stays_lone _ is _ _) = ap length is ∙ simp length-set
settles_long atleast t v rs work k rs' work' k' (waits _ _ _ is _ _) = ap length is ∙ simp length-set
settles_long atleast t v rs work k rs' work' k' (pairs _ _ _ _ is _ _) = ap length is ∙ simp length-set

-- two parcels that are not paired are not counted
pub room : (rs : List Record) (v w : ℕ) → v < length rs → w < length rs → (v ≡ w → ⊥) → (state rs v ≡ 2 → ⊥) → (state rs w ≡ 2 → ⊥) → paired_count rs + 2 ≤ length rs
room rs v w v-less w-less apart v-free w-free =
    let r : Record = record { state = 2; choice = 0 } in
    let first = set rs v r in
    let still : record_of first w ≡ record_of rs w = get_or-set_other rs v w r _ (λ e. apart (sym e)) in
    let a = count_set rs v r v-less v-free in
    let b = count_set first w r (omega (arith, length-set rs v r)) (λ e. w-free (ap (λ (x : Record). x.state) (sym still) ∙ e)) in
    omega (arith, a, b, count_by-le-length (λ (x : Record). eqb x.state 2) (set first w r), length-set first w r, length-set rs v r)

module _ {K : Type 0} (atleast : K → K → Bool) (laws : Lawful atleast) (t : Graph K) (sound : Sound t) (v : ℕ) (parcel : v < parcels t)
    (rs : List Record) (work : List ℕ) (k : ℕ) (ready : Ready atleast t rs work k) (unpaired : state rs v ≡ 2 → ⊥)
    (rs' : List Record) (work' : List ℕ) (k' : ℕ) (settles : Settles atleast t v rs work k rs' work' k') where
  kept : Kept atleast t rs
  kept = ready.kept

  listing : Listing rs work k
  listing = ready.listing

  enough : parcels t ≤ length work
  enough = ready.room

  now : (x : ℕ) → Now atleast t v rs rs' x
  now = settles_now atleast t sound rs kept v parcel unpaired work k rs' work' k' settles

  long : length rs' ≡ length rs
  long = settles_long atleast t v rs work k rs' work' k' settles

  settles_kept : Kept atleast t rs'
  settles_kept = kept_now atleast laws t sound rs kept v rs' long now

  -- v has settled
  pub settles_self : Settled rs' v
  settles_self = elim (now v) [ same n _ ↦ absurd (n refl) | lone _ _ three _ _ ↦ inr three | waiting _ _ one _ _ _ ↦ inl (inl one) | paired _ _ two _ _ ↦ inl (inr two) ]

  -- and does not wait at a parcel that was paired before
  pub leaves : state rs' v ≡ 1 → state rs (chosen t rs' v) ≡ 2 → ⊥
  leaves one two =
      elim (now v) [ same n _ ↦ n refl | lone _ _ three _ _ ↦ omega (arith, one, three) | waiting _ _ _ _ n _ ↦ n two | paired _ _ also _ _ ↦ omega (arith, one, also) ]

  settled_on : (u : ℕ) → Settled rs u → Settled rs' u
  settled_on u was =
      elim (now u) [
        | same _ e ↦ subst (λ (r : Record). ((r.state ≡ 1) ⊎ (r.state ≡ 2)) ⊎ (r.state ≡ 3)) (sym e) was
        | lone _ _ three _ _ ↦ inr three
        | waiting _ _ one _ _ _ ↦ inl (inl one)
        | paired _ _ two _ _ ↦ inl (inr two)
      ]

  no_new_on : (u : ℕ) → state rs' u ≡ 1 → state rs (chosen t rs' u) ≡ 2 → (state rs u ≡ 1) × (chosen t rs u ≡ chosen t rs' u)
  no_new_on u one two =
      elim (now u) [
        | same _ e ↦ (ap (λ (r : Record). r.state) (sym e) ∙ one, ap (λ (r : Record). other t (row_start t u + r.choice)) (sym e))
        | lone _ _ three _ _ ↦ absurd (omega (arith, one, three))
        | waiting _ _ _ _ n _ ↦ absurd (n two)
        | paired _ _ also _ _ ↦ absurd (omega (arith, one, also))
      ]

  -- who has not begun has not begun after it
  pub stays_idle : (x : ℕ) → (x ≡ v → ⊥) → state rs x ≡ 0 → state rs' x ≡ 0
  stays_idle x n zero =
      elim (now x) [
        | same _ e ↦ ap (λ (r : Record). r.state) e ∙ zero
        | lone _ is _ _ _ ↦ absurd (n is)
        | waiting _ is _ _ _ _ ↦ absurd (n is)
        | paired _ was _ _ _ ↦ absurd (⊎_elim n (λ one. omega (arith, one, zero)) was)
      ]

  -- the worklist after the settling
  record Work : Type 0 where
    more : k ≤ k'
    listed : (i : ℕ) → i < k → get_or work' i 0 ≡ get_or work i 0
    next : Listing rs' work' k'
    as_long : length work' ≡ length work

  unchanged : (r : Record) → (r.state ≡ 2 → ⊥) → rs' ≡ set rs v r → work' ≡ work → k' ≡ k → Work
  unchanged r free-r is same-work same-k =
      let less : v < length rs = omega (arith, kept.long) in
      let none : cond {A = ℕ} (eqb r.state 2) 1 0 ≡ 0 = ap (λ b. cond {A = ℕ} b 1 0) (ne_eqb r.state 2 free-r) in
      let count : paired_count rs' ≡ paired_count rs = ap paired_count is ∙ omega (arith, count_set rs v r less unpaired) in
      let mine : record_of rs' v ≡ r = ap (λ l. record_of l v) is ∙ get_or-set_same rs v r _ less in
      let was : (u : ℕ) → state rs' u ≡ 2 → state rs u ≡ 2 =
      λ u two. ⊎_elim (λ e. absurd (free-r (ap (λ (x : Record). x.state) (sym mine) ∙ ap (state rs') (sym e) ∙ two)))
      (λ n. ap (λ (x : Record). x.state) (sym (ap (λ l. record_of l u) is ∙ get_or-set_other rs v u r _ n)) ∙ two) (cases_eq u v) in
      record {
        more = omega arith;
        listed = λ i _. ap (λ l. get_or l i 0) same-work;
        next = record {
          counted = omega (arith, count, listing.counted);
          only = λ i l. ap (λ x. state rs' (get_or x i 0)) same-work ∙ still_paired atleast laws t sound rs kept v rs' long now (get_or work i 0) (listing.only i (omega arith));
          each = λ u two. let found = listing.each u (was u two) in (found.0, omega (arith, found.1), ap (λ l. get_or l found.0 0) same-work ∙ found.2);
        };
        as_long = ap length same-work;
      }

  two_more : (w : ℕ) (r s : Record) → w < length rs → (v ≡ w → ⊥) → (state rs w ≡ 2 → ⊥) → r.state ≡ 2 → s.state ≡ 2
      → rs' ≡ set (set rs v r) w s → work' ≡ set (set work k v) (k + 1) w → k' ≡ k + 2 → Work
  two_more w r s w-less apart w-free r-two s-two is work-is k-is =
      let less : v < length rs = omega (arith, kept.long) in
      let fits : k + 2 ≤ length work = omega (arith, room rs v w less w-less apart unpaired w-free, listing.counted, kept.long) in
      let first = set rs v r in
      let one_first : cond {A = ℕ} (eqb r.state 2) 1 0 ≡ 1 = ap (λ b. cond {A = ℕ} b 1 0) (eq-eqb r.state 2 r-two) in
      let one-second : cond {A = ℕ} (eqb s.state 2) 1 0 ≡ 1 = ap (λ b. cond {A = ℕ} b 1 0) (eq-eqb s.state 2 s-two) in
      let still : record_of first w ≡ record_of rs w = get_or-set_other rs v w r _ (λ e. apart (sym e)) in
      let a = count_set rs v r less unpaired in
      let first-long = length-set rs v r in
      let b = count_set first w s (omega arith) (λ e. w-free (ap (λ (x : Record). x.state) (sym still) ∙ e)) in
      let count : paired_count rs' ≡ paired_count rs + 2 = ap paired_count is ∙ omega arith in
      let at-w : record_of rs' w ≡ s = ap (λ l. record_of l w) is ∙ get_or-set_same first w s _ (omega arith) in
      let at-v : record_of rs' v ≡ r = ap (λ l. record_of l v) is ∙ get_or-set_other first w v s _ apart ∙ get_or-set_same rs v r _ less in
      let two-w : state rs' w ≡ 2 = ap (λ (x : Record). x.state) at-w ∙ s-two in
      let two-v : state rs' v ≡ 2 = ap (λ (x : Record). x.state) at-v ∙ r-two in
      let one-work = set work k v in
      let work-long = length-set work k v in
      let last : get_or work' (k + 1) 0 ≡ w = ap (λ l. get_or l (k + 1) 0) work-is ∙ get_or-set_same one-work (k + 1) w 0 (omega arith) in
      let before : get_or work' k 0 ≡ v = ap (λ l. get_or l k 0) work-is ∙ get_or-set_other one-work (k + 1) k w 0 (λ e. omega arith) ∙ get_or-set_same work k v 0 (omega arith) in
      let earlier : (i : ℕ) → i < k → get_or work' i 0 ≡ get_or work i 0 =
      λ i l. ap (λ x. get_or x i 0) work-is ∙ get_or-set_other one-work (k + 1) i w 0 (λ e. omega arith) ∙ get_or-set_other work k i v 0 (λ e. omega arith) in
      let stays_two : (u : ℕ) → state rs u ≡ 2 → state rs' u ≡ 2 = still_paired atleast laws t sound rs kept v rs' long now in
      record {
        more = omega arith;
        listed = earlier;
        next = record {
          counted = omega (arith, count, listing.counted);
          only = λ i l.
              ⊎_elim (λ small. ap (state rs') (earlier i small) ∙ stays_two (get_or work i 0) (listing.only i small))
              (λ big. ⊎_elim (λ e. ap (λ x. state rs' (get_or work' x 0)) e ∙ ap (state rs') before ∙ two-v)
              (λ n. let e : i ≡ k + 1 = omega arith in ap (λ x. state rs' (get_or work' x 0)) e ∙ ap (state rs') last ∙ two-w) (cases_eq i k))
              (cases_lt i k);
          each = λ u two.
              ⊎_elim (λ e. (k, omega arith, before ∙ sym e))
              (λ n. ⊎_elim (λ e. (k + 1, omega arith, last ∙ sym e))
              (λ m. let unchanged-u : record_of rs' u ≡ record_of rs u = ap (λ l. record_of l u) is ∙ get_or-set_other first w u s _ m ∙ get_or-set_other rs v u r _ n in
              let found = listing.each u (ap (λ (x : Record). x.state) (sym unchanged-u) ∙ two) in
              (found.0, omega (arith, found.1), earlier found.0 found.1 ∙ found.2)) (cases_eq u w))
              (cases_eq u v);
        };
        as_long = ap length work-is ∙ simp length-set;
      }

  works : Settles atleast t v rs work k rs' work' k' → Work
  works (stays_lone _ is same-work same-k) = unchanged (record { state = 3; choice = 0 }) (λ e. omega arith) is same-work same-k
  works (waits p _ _ is same-work same-k) = unchanged (record { state = 1; choice = p - row_start t v }) (λ e. omega arith) is same-work same-k
  works (pairs p top waited for-v is work-is k-is) =
      two_more (other t p) (record { state = 2; choice = p - row_start t v }) (record { state = 2; choice = choice rs (other t p) })
      (omega (arith, kept.long, other_below t sound v p top.within)) (λ e. other_not_own t sound v p top.within (sym e)) (λ two. omega (arith, two, waited)) refl refl is work-is k-is

  settles_listing : Listing rs' work' k'
  settles_listing = (works settles).next

  pub settles_ready : Ready atleast t rs' work' k'
  settles_ready = record { kept = settles_kept; listing = settles_listing; room = omega (arith, (works settles).as_long, enough) }

  pub settles_onward : Onward t rs work k rs' work' k'
  settles_onward = record {
    more = (works settles).more;
    listed = (works settles).listed;
    settled = settled_on;
    paired = still_paired atleast laws t sound rs kept v rs' long now;
    no_new = no_new_on;
  }

module _ {K : Type 0} (t : Graph K) where
  pub onward_none : (rs : List Record) (work : List ℕ) (k : ℕ) → Onward t rs work k rs work k
  onward_none rs work k = record { more = omega arith; listed = λ i l. refl; settled = λ u s. s; paired = λ u two. two; no_new = λ u one two. (one, refl) }

  pub onward_on : (rs : List Record) (work : List ℕ) (k : ℕ) (rs' : List Record) (work' : List ℕ) (k' : ℕ) (rs'' : List Record) (work'' : List ℕ) (k'' : ℕ)
      → Onward t rs work k rs' work' k' → Onward t rs' work' k' rs'' work'' k'' → Onward t rs work k rs'' work'' k''
  onward_on rs work k rs' work' k' rs'' work'' k'' first second = record {
    more = omega (arith, first.more, second.more);
    listed = λ i l. second.listed i (omega (arith, first.more)) ∙ first.listed i l;
    settled = λ u s. second.settled u (first.settled u s);
    paired = λ u two. second.paired u (first.paired u two);
    no_new = λ u one two.
        let later = second.no_new u one (first.paired (chosen t rs'' u) two) in
        let earlier = first.no_new u later.0 (ap (state rs) later.1 ∙ two) in
        (earlier.0, earlier.1 ∙ later.1);
  }
