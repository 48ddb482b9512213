-- The parcels that stand in a row, one after another. Assumes nothing.
use Rattle.std.proofs.Common.{◌≡◌, ℕ, ◌+◌, ◌-◌, ◌<◌, ◌≤◌, List, length, get_or, take, drop, ltb, ap, ◌∙◌, arith}
use Rattle.std.proofs.lemmas.Bool.{cond-true, lt-ltb}
use Rattle.std.proofs.lemmas.List.{get_or-take, get_or-drop, length-take-le, length-drop}
use Rattle.std.specs.declared.ops.Range.{Range}
use Rattle.sheet.specs.Graph.{Graph, parcels, entries, row, row_start, row_end, other, InRow}
use Rattle.sheet.specs.View.{graph}
use Rattle.sheet.specs.Held.{held}
use Rattle.sheet.specs.declared.checked.Sheet.{Sheet}
use Rattle.sheet.specs.declared.tables.Tables.{Tables}
use Rattle.sheet.proofs.Facts.{ParcelFacts, parcel_facts, sized_facts}
use Rattle.sheet.proofs.Held.{held_sound}

-- the parcel at place i of row u is the one of this entry
pub record Neighbour {K : Type 0} (t : Graph K) (u i v : ℕ) : Type 0 where
  pub here : InRow t u (row_start t u + i)
  pub is : v ≡ other t (row_start t u + i)

-- the tables are those of a checked sheet that has parcel u, and these are the ends of its row
module _ {K : Type 0} (sheet : Sheet K) (tables : Tables K) (same : tables ≡ sheet.tables) (u : ℕ) (parcel : u < parcels (held sheet)) (ends : Range ℕ) (is : ends ≡ row (held sheet) u) where
  facts : ParcelFacts (held sheet) u
  facts = parcel_facts (held sheet) u ((held_sound sheet).parcel u parcel)

  from_row : ends ≡ record { start = row_start (held sheet) u; end = row_end (held sheet) u }
  from_row = is ∙ cond-true (ltb u (parcels (held sheet))) _ _ (lt-ltb _ _ parcel)

  starts : ends.start ≡ row_start (held sheet) u
  starts = ap (λ r. r.start) from_row

  stops : ends.end ≡ row_end (held sheet) u
  stops = ap (λ r. r.end) from_row

  all : length tables.others.now ≡ entries (held sheet)
  all = ap (λ x. entries (graph x)) same

  pub row_within : (ends.start ≤ ends.end) × (ends.end ≤ length tables.others.now) × (ends.end ≤ 16384)
  row_within =
      let few = (sized_facts (held sheet) (held_sound sheet).sized_right).entries_few in
      (omega (arith, starts, stops, facts.forward), omega (arith, stops, all, facts.within), omega (arith, stops, facts.within, few))

  abbrev named : List ℕ
  named = take (ends.end - ends.start) (drop ends.start tables.others.now)

  long : length named ≡ ends.end - ends.start
  long = length-take-le (ends.end - ends.start) (drop ends.start tables.others.now) (omega (arith, row_within.0, row_within.1, length-drop ends.start tables.others.now))

  pub neighbour : (i : ℕ) → i < length named → Neighbour (held sheet) u i (get_or named i 0)
  neighbour i inside =
      let less : i < ends.end - ends.start = omega (arith, long, inside) in
      let at : get_or named i 0 ≡ other (graph tables) (ends.start + i) =
      get_or-take (ends.end - ends.start) (drop ends.start tables.others.now) i 0 less ∙ get_or-drop ends.start tables.others.now i 0 in
      record {
        here = record { parcel = parcel; from = omega arith; to = omega (arith, less, starts, stops) };
        is = at ∙ ap (λ x. other (graph x) (ends.start + i)) same ∙ ap (λ p. other (held sheet) (p + i)) starts;
      }

  pub row_over : (i : ℕ) → length named ≤ i → row_end (held sheet) u ≤ row_start (held sheet) u + i
  row_over i past = omega (arith, long, past, starts, stops)
