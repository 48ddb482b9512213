-- A round on the path: start 1, start 2, fetch 1. Assumes nothing.
use Rattle.std.proofs.Common.{◌≡◌, ℕ, zero, suc, ◌<◌, ◌≤◌, true, false, cond, ◌&&◌, eqb, leb, List, [], ◌∷◌, ◌++◌, length, get_or, set, replicate, Some, None, Ok, count_by, Option, sym, refl, ap, ◌∙◌, subst, inl, ⊎_elim, arith, lit<, lit≤}
use Rattle.std.specs.List.{range_with_len}
use Rattle.std.specs.List.Sorted.{IsPermutation}
use Rattle.std.proofs.lemmas.List.{length-append}
use Rattle.std.proofs.lemmas.List.Sorted.{IsPermutation-refl, IsPermutation-cons, IsPermutation-trans, IsPermutation-to_front, length_permutation}
use Rattle.std.proofs.lemmas.Bool.{both_ways}
use Rattle.ranking.specs.Kinds.{cents_atleast}
use Rattle.matching.proofs.In.{in_shuffled, in_unshuffled}
use Rattle.sheet.specs.Graph.{row_end}
use Rattle.sheet.specs.Check.{Sound}
use Rattle.pairing.specs.Above.{entry_above}
use Rattle.pairing.specs.Examples.{path}
use Rattle.pairing.proofs.Compared.{cents_lawful}
use Rattle.choosing.specs.Top.{Top}
use Rattle.line.specs.declared.Note.{Note}
use Rattle.records.specs.declared.record.Record.{Record}
use Rattle.records.specs.Records.{record_of, state, chosen, chosen_place}
use Rattle.protocol.specs.World.{World, fits}
use Rattle.protocol.specs.Marks.{open', bidden, bid, drop}
use Rattle.protocol.specs.Steps.{Chooses, alone, waits, pairs, Receives, hears, agrees, loses, turns, heard, with_choice}
use Rattle.protocol.specs.Turns.{counted, Started, begun, Fetched, stray}
use Rattle.protocol.specs.History.{Opened, start, fetch, After, opened, then}
use Rattle.protocol.proofs.Holds.{fits_facts, facts_fit}
use Rattle.protocol.proofs.Refusals.{one_top}
use Rattle.protocol.proofs.Tops.{gone_marks, can_let_go}
use Rattle.known.specs.Known.{ThreeTurns}

-- a list with the same element everywhere
all_same : {A : Type 0} (d : A) (xs : List A) → ((k : ℕ) → get_or xs k d ≡ d) → xs ≡ replicate (length xs) d
all_same d [] each = refl
all_same d (x ∷ xs) each = ap (λ l. x ∷ l) (all_same d xs (λ k. each (suc k))) ∙ ap (λ y. y ∷ replicate (length xs) d) (each 0)

-- and what stands there
same_everywhere : {A : Type 0} (d : A) (n k : ℕ) → get_or (replicate n d) k d ≡ d
same_everywhere d zero k = refl
same_everywhere d (suc n) zero = refl
same_everywhere d (suc n) (suc k) = same_everywhere d n k

abbrev idle : Record
idle = record { state = 0; choice = 0 }

abbrev fresh : List Record
fresh = replicate 4 idle

abbrev clear : List ℕ
clear = replicate 6 0

-- parcels 1 and 2 each have the other on top
top_1 : Top cents_atleast path (open' clear) 1 2
top_1 = record {
  within = record { parcel = lit< tt; from = lit≤ tt; to = lit< tt };
  candidate = refl;
  over = λ q within _ not. let e : q ≡ 1 = omega (arith, within.from, within.to) in subst (λ x. entry_above cents_atleast path 2 x ≡ true) (sym e) refl;
}

top_2 : Top cents_atleast path (open' clear) 2 3
top_2 = record {
  within = record { parcel = lit< tt; from = lit≤ tt; to = lit< tt };
  candidate = refl;
  over = λ q within _ not. let e : q ≡ 4 = omega (arith, within.from, within.to) in subst (λ x. entry_above cents_atleast path 3 x ≡ true) (sym e) refl;
}

-- with nothing struck and no bid, a parcel bids for its top entry and waits
waits_only : (u p : ℕ) → Top cents_atleast path (open' clear) u p → bidden clear p ≡ false → {r : Record} {m : List ℕ} {out : List Note} → Chooses cents_atleast path u clear r m out → (r ≡ with_choice path 1 u p) × (m ≡ clear) × (out ≡ bid path u p ∷ [])
waits_only u p top un (alone none) = absurd (both_ways (open' clear p) (none p top.within) top.candidate)
waits_only u p top un (waits {p = q} top' _) = let e = one_top cents_atleast cents_lawful path (open' clear) u q p top' top in (ap (with_choice path 1 u) e, refl, ap (λ x. bid path u x ∷ []) e)
waits_only u p top un (pairs {p = q} top' b _) = absurd (both_ways (bidden clear p) un (ap (bidden clear) (one_top cents_atleast cents_lawful path (open' clear) u p q top top') ∙ b))

-- a round with clear marks, by its records, the notes that wait, and its counts
record Stands (rs : List Record) (notes : List Note) (k j : ℕ) (w : World) : Type 0 where
  records : w.records ≡ rs
  marks : w.marks ≡ clear
  waiting : IsPermutation notes w.waiting
  turns : w.turns ≡ k
  sent : w.sent ≡ j

open_stands : {w : World} → Opened path w → Stands fresh [] 0 0 w
open_stands {w} o = record {
  records = all_same idle w.records o.idle ∙ ap (λ n. replicate n idle) o.records_long;
  marks = all_same 0 w.marks o.clear ∙ ap (λ n. replicate n 0) o.marks_long;
  waiting = subst (λ l. IsPermutation [] l) (sym o.empty) (IsPermutation-refl []);
  turns = o.turns;
  sent = o.sent;
}

start_stands : (u p : ℕ) → Top cents_atleast path (open' clear) u p → bidden clear p ≡ false → {rs : List Record} {notes : List Note} {k j : ℕ} {a b : World} → Stands rs notes k j a → Started cents_atleast path u a b → Stands (set rs u (with_choice path 1 u p)) (bid path u p ∷ notes) (counted k 1) (counted j 1) b
start_stands u p top un {rs} {notes} {a} {b} s x =
    let acc = x.accepted in
    let only = waits_only u p top un (subst (λ m. Chooses cents_atleast path u m acc.record' acc.marks' acc.out) s.marks acc.chooses) in
    record {
      records = x.changes.records ∙ ap (λ l. set l u acc.record') s.records ∙ ap (set rs u) only.0;
      marks = x.changes.marks ∙ only.1;
      waiting = IsPermutation-trans (bid path u p ∷ notes) (bid path u p ∷ a.waiting) b.waiting (IsPermutation-cons (bid path u p) notes a.waiting s.waiting) (subst (λ l. IsPermutation (l ++ a.waiting) b.waiting) only.2 x.changes.waiting);
      turns = x.changes.turns ∙ ap (λ n. counted n 1) s.turns;
      sent = x.changes.sent ∙ ap (λ l. counted a.sent (length l)) only.2 ∙ ap (λ n. counted n 1) s.sent;
    }

abbrev both_wait : List Record
both_wait = set (set fresh 1 (with_choice path 1 1 2)) 2 (with_choice path 1 2 3)

abbrev both_bids : List Note
both_bids = bid path 2 3 ∷ bid path 1 2 ∷ []

-- parcel 2 waits for 1, so the bid of 1 pairs it, and it drops 3
agrees_only : {r : Record} {m : List ℕ} {out : List Note} → Receives cents_atleast path (bid path 1 2) (with_choice path 1 2 3) clear r m out → (r ≡ with_choice path 2 2 3) × (length m ≡ 6) × (out ≡ drop path 2 4 ∷ [])
agrees_only (hears _ un) = absurd (both_ways true un refl)
agrees_only (agrees _ _ go) = (refl, go.long, go.drops)
agrees_only (loses k _) = absurd (omega (arith, k))
agrees_only (turns k _ _) = absurd (omega (arith, k))

abbrev after : List Record
after = set both_wait 2 (with_choice path 2 2 3)

module _ (c d : World) (s : Stands both_wait both_bids 2 2 c) (f : Fetched cents_atleast path 1 c d) where
  abbrev note : Note
  note = f.accepted.note

  -- of the two bids only the one for 2 lies in store 1
  note_is : note ≡ bid path 1 2
  note_is =
      ⊎_elim (λ e. absurd (both_ways (stray cents_atleast path 1 note) f.accepted.comes (ap (stray cents_atleast path 1) e)))
      (⊎_elim (λ e. e) absurd)
      (in_unshuffled both_bids c.waiting note s.waiting (in_shuffled (note ∷ f.rest) c.waiting note f.taken (inl refl)))

  receipt : (f.accepted.record' ≡ with_choice path 2 2 3) × (length f.accepted.marks' ≡ 6) × (f.accepted.out ≡ drop path 2 4 ∷ [])
  receipt =
      agrees_only
      (subst (λ m. Receives cents_atleast path (bid path 1 2) (with_choice path 1 2 3) m f.accepted.record' f.accepted.marks' f.accepted.out) s.marks
      (subst (λ l. Receives cents_atleast path (bid path 1 2) (record_of l 2) c.marks f.accepted.record' f.accepted.marks' f.accepted.out) s.records
      (subst (λ n. Receives cents_atleast path n (record_of c.records n.addressee) c.marks f.accepted.record' f.accepted.marks' f.accepted.out) note_is f.accepted.receives)))

  records_are : d.records ≡ after
  records_are =
      f.changes.records
      ∙ ap (λ (n : Note). set c.records n.addressee f.accepted.record') note_is
      ∙ ap (λ l. set l 2 f.accepted.record') s.records
      ∙ ap (set both_wait 2) receipt.0

  fitting : fits path d ≡ true
  fitting =
      let was = fits_facts path c f.accepted.fitting in
      facts_fit path d (record {
        records_long = ap length records_are;
        marks_long = ap length f.changes.marks ∙ receipt.1;
        parcel_count = f.changes.parcel_count ∙ was.parcel_count;
        entry_count = f.changes.entry_count ∙ was.entry_count;
        store_count = f.changes.store_count ∙ was.store_count;
      })

  still_waiting : length d.waiting ≡ 2
  still_waiting =
      let now-there = length_permutation (f.accepted.out ++ f.rest) d.waiting f.changes.waiting in
      let were-there = length_permutation both_bids c.waiting s.waiting in
      let taken = length_permutation (note ∷ f.rest) c.waiting f.taken in
      omega (arith, now-there, length-append f.accepted.out f.rest, ap length receipt.2, were-there, taken)

  three_turns : ThreeTurns d
  three_turns = record {
    paired = record {
      parcel = lit< tt;
      paired = ap (λ l. state l 2) records_are;
      within = subst (λ l. chosen_place path l 2 < row_end path 2) (sym records_are) (lit< tt);
      with' = ap (λ l. chosen path l 2) records_are;
    };
    waits = ap (λ l. state l 1) records_are;
    waits_for = ap (λ l. chosen path l 1) records_are;
    turns = f.changes.turns ∙ ap (λ n. counted n 1) s.turns;
    begun = ap (λ l. count_by (λ u. leb 1 (state l u) && leb (state l u) 3) (range_with_len 0 4)) records_are;
    sent = f.changes.sent ∙ ap (λ l. counted c.sent (length l)) receipt.2 ∙ ap (λ n. counted n 1) s.sent;
    waiting = still_waiting;
    refuses = begun (lit< tt) fitting (subst (λ l. 1 ≤ state l 1) (sym records_are) (lit≤ tt)) (subst (λ l. state l 1 ≤ 3) (sym records_are) (lit≤ tt));
  }

pub comes_to : (a b c d : World) → Opened path a → Started cents_atleast path 1 a b → Started cents_atleast path 2 b c → Fetched cents_atleast path 1 c d → ThreeTurns d
comes_to a b c d o first second third = three_turns c d (start_stands 2 3 top_2 refl (start_stands 1 2 top_1 refl (open_stands o) first) second) third

-- a line that hands out the first note for a store
first_for : List Note → ℕ → Option Note
first_for [] s = None
first_for (n ∷ ns) s = cond (eqb n.store s) (Some n) (first_for ns s)

abbrev at_time : List Record → List ℕ → List Note → ℕ → World
at_time rs m notes k = record {
  parcel_count = 4;
  entry_count = 6;
  store_count = 2;
  turns = k;
  sent = k;
  records = rs;
  marks = m;
  waiting = notes;
  capacity = 6;
  next = first_for notes;
}

module _ (sound : Sound path) where
  abbrev bid_heard : List ℕ
  bid_heard = heard path (bid path 1 2) clear

  abbrev gone : List ℕ
  gone = gone_marks path sound 2 3 bid_heard

  pub happens : (w : World) × After cents_atleast path (fetch 1 ∷ start 2 ∷ start 1 ∷ []) w
  unfolding first_for
  happens =
      let w0 : World = at_time fresh clear [] 0 in
      let w1 : World = at_time (set fresh 1 (with_choice path 1 1 2)) clear (bid path 1 2 ∷ []) 1 in
      let w2 : World = at_time both_wait clear both_bids 2 in
      let w3 : World = at_time after gone (drop path 2 4 ∷ bid path 2 3 ∷ []) 3 in
      let opens : Opened path w0 =
      record {
        parcel_count = refl;
        entry_count = refl;
        store_count = refl;
        turns = refl;
        sent = refl;
        records_long = refl;
        idle = same_everywhere idle 4;
        marks_long = refl;
        clear = same_everywhere 0 6;
        empty = refl;
        room = lit≤ tt;
      } in
      let first : Started cents_atleast path 1 w0 w1 =
      record {
        accepted = record { parcel = lit< tt; fitting = refl; idle = refl; record' = with_choice path 1 1 2; marks' = clear; out = bid path 1 2 ∷ []; chooses = waits top_1 refl; room = lit≤ tt };
        changes = record { records = refl; marks = refl; waiting = IsPermutation-refl (bid path 1 2 ∷ []); turns = refl; sent = refl; capacity = refl; parcel_count = refl; entry_count = refl; store_count = refl };
      } in
      let second : Started cents_atleast path 2 w1 w2 =
      record {
        accepted = record { parcel = lit< tt; fitting = refl; idle = refl; record' = with_choice path 1 2 3; marks' = clear; out = bid path 2 3 ∷ []; chooses = waits top_2 refl; room = lit≤ tt };
        changes = record { records = refl; marks = refl; waiting = IsPermutation-refl both_bids; turns = refl; sent = refl; capacity = refl; parcel_count = refl; entry_count = refl; store_count = refl };
      } in
      let third : Fetched cents_atleast path 1 w2 w3 =
      record {
        accepted = record {
          store = lit< tt;
          fitting = refl;
          note = bid path 1 2;
          next = refl;
          comes = refl;
          right = refl;
          record' = with_choice path 2 2 3;
          marks' = gone;
          out = drop path 2 4 ∷ [];
          receives = agrees refl refl (can_let_go path sound 2 3 (lit< tt) bid_heard refl);
          room = lit≤ tt;
        };
        rest = bid path 2 3 ∷ [];
        taken = IsPermutation-to_front (bid path 1 2 ∷ []) (bid path 2 3);
        changes = record { records = refl; marks = refl; waiting = IsPermutation-refl (drop path 2 4 ∷ bid path 2 3 ∷ []); turns = refl; sent = refl; capacity = refl; parcel_count = refl; entry_count = refl; store_count = refl };
      } in
      (w3, then (fetch 1) (then (start 2) (then (start 1) (opened opens) (Ok tt, first)) (Ok tt, second)) (Ok tt, third))
