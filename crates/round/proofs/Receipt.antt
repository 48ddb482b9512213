-- A note that was taken and received, by what the code did. Assumes nothing.
use Rattle.std.proofs.Common.{◌≡◌, ℕ, ◌+◌, ◌<◌, ◌≤◌, Bool, true, false, cond, not, ◌&&◌, eqb, List, [], ◌∷◌, length, get_or, set, filter, sym, refl, ap, ◌∙◌, subst, ⊎_elim, arith}
use Rattle.std.specs.List.Sorted.{IsPermutation}
use Rattle.std.proofs.lemmas.List.{get_or-set_same, get_or-set_other, length-set, length-map}
use Rattle.std.proofs.lemmas.List.Sorted.{IsPermutation-refl}
use Rattle.std.proofs.lemmas.Bool.{cases_eq}
use Rattle.line.specs.declared.Note.{Note}
use Rattle.records.specs.declared.record.Record.{Record}
use Rattle.sheet.specs.Graph.{Graph, InRow, entries, row_start}
use Rattle.sheet.specs.Check.{Sound}
use Rattle.pairing.proofs.Entries.{place_below}
use Rattle.protocol.specs.Marks.{open', drop, open_others, places, strike, note_bid}
use Rattle.protocol.specs.Steps.{LetsGo, Chooses, Receives, hears, agrees, loses, turns, heard, dropped, awaited, entry_of, with_choice}
use Rattle.protocol.proofs.Marks.{heard_open, same_open}
use Rattle.protocol.proofs.Tops.{can_let_go}
use Rattle.round.specs.Parts.{LetGo, Chose, Took, TooMany, Planned, sends}
use Rattle.round.specs.declared.choose.Plan.{Plan}
use Rattle.round.proofs.Carried.{meant}

-- equal tests keep the same
kept_same : (f g : ℕ → Bool) (xs : List ℕ) → ((x : ℕ) → f x ≡ g x) → filter f xs ≡ filter g xs
kept_same f g [] same = refl
kept_same f g (x ∷ xs) same = ap (λ b. cond b (x ∷ filter f xs) (filter f xs)) (same x) ∙ ap (λ l. cond (g x) (x ∷ l) l) (kept_same f g xs same)

module _ {K : Type 0} (atleast : K → K → Bool) (t : Graph K) (sound : Sound t) (n : Note) (r : Record) (m : List ℕ) (long : length m ≡ entries t) (at : ℕ) (row : InRow t n.addressee at) (is : at ≡ entry_of t n) where
  abbrev waits_here : Bool
  waits_here = eqb r.state 1 && eqb (row_start t n.addressee + r.choice) at

  aw : waits_here ≡ awaited t n r
  aw = ap (λ p. eqb r.state 1 && eqb (row_start t n.addressee + r.choice) p) is

  -- the marks as the code wrote them
  abbrev pub bid_marks : List ℕ
  bid_marks = set m at (note_bid (get_or m at 0))

  abbrev pub drop_marks : List ℕ
  drop_marks = set m at (strike (get_or m at 0))

  bid_is : bid_marks ≡ heard t n m
  bid_is = ap (λ p. set m p (note_bid (get_or m p 0))) is

  drop_is : drop_marks ≡ dropped t n m
  drop_is = ap (λ p. set m p (strike (get_or m p 0))) is

  pub bid_long : length bid_marks ≡ entries t
  bid_long = length-set m at (note_bid (get_or m at 0)) ∙ long

  pub drop_long : length drop_marks ≡ entries t
  drop_long = length-set m at (strike (get_or m at 0)) ∙ long

  below : at < length m
  below = omega (arith, long, place_below t sound n.addressee at row)

  -- a bid leaves what is open
  bid_opens : (x : ℕ) → open' bid_marks x ≡ open' m x
  bid_opens x =
      ⊎_elim (λ (e : x ≡ at). subst (λ y. open' bid_marks y ≡ open' m y) (sym e) (heard_open m bid_marks at at (get_or-set_same m at (note_bid (get_or m at 0)) 0 below)))
      (λ other. same_open m bid_marks x x (get_or-set_other m at x (note_bid (get_or m at 0)) 0 other)) (cases_eq x at)

  pub bid_others : open_others t bid_marks n.addressee at ≡ open_others t m n.addressee at
  bid_others = kept_same (λ q. open' bid_marks q && not (eqb q at)) (λ q. open' m q && not (eqb q at)) (places t n.addressee) (λ x. ap (λ b. b && not (eqb x at)) (bid_opens x))

  module _ (before rest : List Note) (taken : IsPermutation (n ∷ rest) before) (free : ℕ) where
    pub took_hears : n.kind ≡ 1 → waits_here ≡ false → Took atleast t n r m r bid_marks before rest free 0
    took_hears kind un = record {
      rest = rest;
      taken = taken;
      out = [];
      receives = subst (λ l. Receives atleast t n r m r l []) (sym bid_is) (hears kind (sym aw ∙ un));
      put = IsPermutation-refl rest;
      many = refl;
      room = omega arith;
    }

    pub took_agrees : n.kind ≡ 1 → waits_here ≡ true → (r' : Record) (m' : List ℕ) (after : List Note) (count : ℕ) → r' ≡ with_choice t 2 n.addressee at → count ≡ length (open_others t m n.addressee at) → count ≤ free + 1 → LetGo t n.addressee at bid_marks m' rest after → Took atleast t n r m r' m' before after free count
    took_agrees kind there r' m' after count e counted room go = record {
      rest = rest;
      taken = taken;
      out = go.out;
      receives = subst (λ x. Receives atleast t n r m x m' go.out) (sym (e ∙ ap (with_choice t 2 n.addressee) is))
          (agrees kind (sym aw ∙ there) (subst (λ p. LetsGo t n.addressee p (heard t n m) m' go.out) is (subst (λ l. LetsGo t n.addressee at l m' go.out) bid_is go.go)));
      put = go.put;
      many = ap length go.go.drops ∙ length-map (open_others t bid_marks n.addressee at) (drop t n.addressee) ∙ ap length bid_others ∙ sym counted;
      room = room;
    }

    pub took_loses : n.kind ≡ 2 → waits_here ≡ false → Took atleast t n r m r drop_marks before rest free 0
    took_loses kind un = record {
      rest = rest;
      taken = taken;
      out = [];
      receives = subst (λ l. Receives atleast t n r m r l []) (sym drop_is) (loses kind (sym aw ∙ un));
      put = IsPermutation-refl rest;
      many = refl;
      room = omega arith;
    }

    pub took_turns : n.kind ≡ 2 → waits_here ≡ true → (r' : Record) (m' : List ℕ) (after : List Note) (plan count : ℕ) → count ≡ plan → count ≤ free + 1 → Chose atleast t n.addressee drop_marks r' m' rest after plan → Took atleast t n r m r' m' before after free count
    took_turns kind there r' m' after plan count same room ch = record {
      rest = rest;
      taken = taken;
      out = ch.out;
      receives = turns kind (sym aw ∙ there) (subst (λ l. Chooses atleast t n.addressee l r' m' ch.out) drop_is ch.chooses);
      put = ch.put;
      many = ch.many ∙ sym same;
      room = room;
    }

  pub many_bid : (free count : ℕ) → n.kind ≡ 1 → waits_here ≡ true → count ≡ length (open_others t m n.addressee at) → free + 1 < count → TooMany atleast t n r m free
  many_bid free count kind there counted over =
      let l = length-map (open_others t (heard t n m) n.addressee (entry_of t n)) (drop t n.addressee) in
      let same : length (open_others t (heard t n m) n.addressee (entry_of t n)) ≡ length (open_others t m n.addressee at) = ap (λ p. length (open_others t (heard t n m) n.addressee p)) (sym is) ∙ ap (λ k. length (open_others t k n.addressee at)) (sym bid_is) ∙ ap length bid_others in
      record {
        record' = _;
        marks' = _;
        out = _;
        receives = agrees kind (sym aw ∙ there) (can_let_go t sound n.addressee (entry_of t n) row.parcel (heard t n m) (subst (λ k. length k ≡ entries t) bid_is bid_long));
        over = omega (arith, l, same, counted, over);
      }

  pub many_drop : (free count : ℕ) → n.kind ≡ 2 → waits_here ≡ true → (plan : Plan) → Planned atleast t n.addressee drop_marks plan → count ≡ sends plan → free + 1 < count → TooMany atleast t n r m free
  many_drop free count kind there plan planned counted over =
      let d = meant atleast t sound n.addressee drop_marks row.parcel drop_long plan planned in
      record {
        record' = d.record';
        marks' = d.marks';
        out = d.out;
        receives = turns kind (sym aw ∙ there) (subst (λ l. Chooses atleast t n.addressee l d.record' d.marks' d.out) drop_is d.chooses);
        over = omega (arith, d.many, counted, over);
      }
