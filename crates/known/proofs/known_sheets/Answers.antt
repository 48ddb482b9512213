use Rattle.std.proofs.Common.{◌≡◌, ℕ, true, false, List, [], ◌∷◌, length, sym, refl, ap, ◌∙◌, inl, inr, ⊎_elim, arith, lit<, lit≤}
use Rattle.std.proofs.lemmas.Bool.{both_ways}
use Rattle.std.proofs.lemmas.Bool.Decides.{nat_tests}
use Rattle.ranking.specs.Kinds.{cents_atleast, staged_atleast}
use Rattle.ranking.specs.declared.Cents.{Cents}
use Rattle.matching.specs.Pairs.{Pair, holds, touch, ◌∈◌}
use Rattle.matching.specs.Half.{Pairing}
use Rattle.sheet.specs.Graph.{Graph, sized, no_parcels}
use Rattle.sheet.specs.Check.{size}
use Rattle.pairing.specs.Pairs.{joint, sheet_pairs}
use Rattle.pairing.specs.Examples.{two, path, triangle, ring, finer}
use Rattle.records.specs.declared.record.Record.{Record}
use Rattle.records.specs.Totals.{no_totals}
use Rattle.protocol.specs.World.{World}
use Rattle.protocol.specs.History.{Opened}
use Rattle.protocol.proofs.Holds.{facts_fit}
use Rattle.round.specs.Closing.{OpenRefused, line_unfit, wrong_length, Closed}
use Rattle.known.specs.Sheets.{two_keys, one_sided, two_editions}
use Rattle.known.specs.Known.{SixNotes, OnePast, LoneIn, outer}
use Rattle.known.proofs.Computed.{passes_by, refused_by}
use Rattle.known.proofs.Path.{comes_to, happens}
use Rattle.known.proofs.known_sheets.Goals as goal

-- the empty sheet: no record, no note, and nothing to count
closes_empty : (w : World) → Opened {K = Cents} no_parcels w → Closed {K = Cents} no_parcels w no_totals
closes_empty w o = record {
  closable = record {
    fitting = facts_fit {K = Cents} no_parcels w (record { records_long = o.records_long; marks_long = o.marks_long; parcel_count = o.parcel_count; entry_count = o.entry_count; store_count = o.store_count });
    right = record { long = o.records_long; each = λ v less. absurd (omega (arith, less)) };
    settled = record { decided = λ u less. absurd (omega (arith, less)); empty = o.empty };
  };
  pairs = refl;
  lone = refl;
  sent = sym o.sent;
  turns = sym o.turns;
}

-- a parcel that the one pair does not hold is lone
lone_beside : (q : Pair) (u : ℕ) → holds q u ≡ false → LoneIn (q ∷ []) u
lone_beside q u un p (inl e) h = both_ways (holds p u) (ap (λ x. holds x u) e ∙ un) h
lone_beside q u un p (inr m) h = elim m [ ]

-- two members of the outer pairs that share a parcel are one
outer_apart : (p q : Pair) → p ∈ outer → q ∈ outer → touch p q ≡ true → p ≡ q
outer_apart p q (inl e) (inl f) t = e ∙ sym f
outer_apart p q (inl e) (inr (inl f)) t = absurd (both_ways (touch p q) (ap (λ x. touch x q) e ∙ ap (touch (joint 0 1)) f) t)
outer_apart p q (inr (inl e)) (inl f) t = absurd (both_ways (touch p q) (ap (λ x. touch x q) e ∙ ap (touch (joint 2 3)) f) t)
outer_apart p q (inr (inl e)) (inr (inl f)) t = e ∙ sym f
outer_apart p q (inl e) (inr (inr n)) t = elim n [ ]
outer_apart p q (inr (inl e)) (inr (inr n)) t = elim n [ ]
outer_apart p q (inr (inr m)) _ t = elim m [ ]

outer_pairing : Pairing (sheet_pairs path) outer
outer_pairing = record {
  within = λ p m. ⊎_elim (λ e. inl e) (⊎_elim (λ e. inr (inr (inl e))) absurd) m;
  apart = outer_apart;
  once = (⊎_elim (λ e. let z : ◌≡◌ {A = ℕ} 0 2 = ap (λ (x : Pair). x.lo) e in omega arith) absurd, (λ m. m, tt));
}

opens_at_6 : (rs : List Record) (m : List ℕ) → length rs ≡ 4 → length m ≡ 6 → {k p : ℕ} → OpenRefused path rs m [] 6 k p → ⊥
opens_at_6 rs m few long (line_unfit unfit) = unfit refl (lit≤ tt)
opens_at_6 rs m few long (wrong_length _ _ wrong) = wrong few long

only_11 : (rs : List Record) (m : List ℕ) {k p : ℕ} → OpenRefused path rs m [] 5 k p → (k ≡ 11) × (p ≡ 0)
only_11 rs m (line_unfit _) = (refl, refl)
only_11 rs m (wrong_length _ room _) = absurd (omega (arith, room))

six_notes : SixNotes
six_notes = record {
  opens = λ rs m few long k p r. opens_at_6 rs m few long r;
  refused = λ rs m. line_unfit (λ _ room. absurd (omega (arith, room)));
  only = λ rs m k p r. only_11 rs m r;
}

too_large : (t : Graph Cents) → OnePast t → sized t ≡ false
too_large t (inl e) = grind (arith, nat_tests)
too_large t (inr (inl e)) = grind (arith, nat_tests)
too_large t (inr (inr (inl e))) = grind (arith, nat_tests)
too_large t (inr (inr (inr e))) = grind (arith, nat_tests)

pub returns : goal.returns
returns c =
    let path-passes = passes_by cents_atleast path refl refl refl refl refl in
    record {
      empty = record { passes = passes_by cents_atleast no_parcels refl refl refl refl refl; pairing = refl };
      empty_closes = closes_empty;
      pair_at_0 = record { passes = passes_by cents_atleast two refl refl refl refl refl; pairing = refl };
      middle_of_path = record { passes = path-passes; pairing = refl };
      middle = record { first_lone = lone_beside (joint 1 2) 0 refl; last_lone = lone_beside (joint 1 2) 3 refl; sum = refl; others = outer_pairing; other_sum = refl; twice = lit≤ tt };
      equal_three = record { passes = passes_by cents_atleast triangle refl refl refl refl refl; pairing = refl };
      equal_four = record { passes = passes_by cents_atleast ring refl refl refl refl refl; pairing = refl };
      finer_band = record { passes = passes_by staged_atleast finer refl refl refl refl refl; pairing = refl };
      keys_differ = refused_by cents_atleast two_keys refl refl refl refl 1 2 (lit< tt) refl refl (lit< tt);
      no_mirror = refused_by cents_atleast one_sided refl refl refl refl 1 2 (lit< tt) refl refl (lit< tt);
      editions_differ = refused_by cents_atleast two_editions refl refl refl refl 2 4 (lit< tt) refl refl (lit< tt);
      three_calls = record { happens = happens path-passes.sound; comes_to = comes_to };
      six_notes = six_notes;
      one_past = λ t e. size (too_large t e);
    }
