use Rattle.std.proofs.Common.{◌≡◌, ℕ, List, [], ◌∷◌, length, get_or, Some, None, Option, refl, subst, sym, arith}
use Rattle.text.specs.Parts.{left}
use Rattle.text.specs.Rows.{Begins}
use Rattle.reading.specs.Entries.{EntryNumbers}
use Rattle.reading.specs.Listing.{Entry, entry_row}
use Rattle.reading.proofs.Lists.{three, four}
use Rattle.reading.proofs.rows.entry_numbers.Goals as goal

pub returns-in_ok-row : goal.returns-in_ok-row
returns-in_ok-row c =
    let vs = c.in_ok-row.field-0 in
    let told = c.in_ok-row.ensures in
    record {
      entry = record { row = get_or vs 0 0; other = get_or vs 1 0; fields = get_or vs 2 0 ∷ [] };
      key = omega arith;
      numbers = refl;
      written = subst (λ l. Begins (l ∷ []) (left c.args.lines.now) (left c.next_numbers.new.lines)) (three vs told.1) told.0;
    }

-- four numbers are those of an entry whose key has two fields
of_four : {count : ℕ} (was is : List ℕ) (r : Option (List ℕ)) → count ≡ 2 → elim r as (λ _. Type 0) [ Some vs ↦ Begins (vs ∷ []) was is × (length vs ≡ 4) | None ↦ ((vs rest : List ℕ) → length vs ≡ 4 → Begins (vs ∷ []) was rest → ⊥) ] → elim r as (λ _. Type 0) [ Some vs ↦ EntryNumbers count was is vs | None ↦ ((x : Entry) (rest : List ℕ) → length x.fields ≡ count → Begins (entry_row x ∷ []) was rest → ⊥) ]
of_four was is None two h = λ x rest e b. h (entry_row x) rest (omega (arith, e)) b
of_four was is (Some vs) two h =
    record {
      entry = record { row = get_or vs 0 0; other = get_or vs 1 0; fields = get_or vs 2 0 ∷ get_or vs 3 0 ∷ [] };
      key = sym two;
      numbers = four vs h.1;
      written = subst (λ l. Begins (l ∷ []) was is) (four vs h.1) h.0;
    }

pub returns-else-count-eq1 : goal.returns-else-count-eq1
returns-else-count-eq1 c = of_four _ _ _ (omega arith) c.next_numbers-else-count-eq1.ensures
