use Rattle.std.proofs.Common.{◌≡◌, ℕ, List, [], ◌∷◌, length, Err, sym, refl, ap, ◌∙◌, subst, inl, inr, arith}
use Rattle.std.proofs.lemmas.Result.{err_from_is_err_and}
use Rattle.std.proofs.lemmas.Bool.{false≢true}
use Rattle.text.specs.Rows.{Begins}
use Rattle.faults.specs.declared.Refusal.TheVariants.{Line}
use Rattle.reading.specs.declared.Sizes.{Sizes}
use Rattle.reading.specs.Listing.{sizes_row}
use Rattle.reading.specs.Outcome.{with_entries}
use Rattle.reading.specs.Passing.{Entries}
use Rattle.reading.proofs.Lent.{same_slices, slices_through, room_kept}
use Rattle.reading.proofs.Next.{same_between, passed_end}
use Rattle.reading.proofs.Only.{read_by}
use Rattle.reading.proofs.Wrong.{listed}
use Rattle.reading.proofs.read.Goals as goal

-- the first line of the whole text, by what the reader has left of it
at_first : {z : Sizes} {rest a b : List ℕ} → a ≡ b → Begins (sizes_row z ∷ []) a rest → Begins (sizes_row z ∷ []) b rest
at_first {z} {rest} e h = subst (λ x. Begins (sizes_row z ∷ []) x rest) e h

pub returns-in_err-sizes : goal.returns-in_err-sizes
returns-in_err-sizes g c =
    let p = err_from_is_err_and c.from_residual.result c.from_residual.ensures.1 in
    let told = rw c.in_err-sizes.ensures.ok_part at c.first_line.ensures in
    let refused = rw c.in_err-sizes.ensures.ok_part at c.in_err-sizes.ensures.value in
    let fault : c.in_err-sizes.field-0.0 ≡ (Line, 1) = cc in
    rw (p.1, p.2) (record { reads = read_by (inl (λ z f. told z f.0 (at_first (sym c.new-lines.ensures.all) f.1), (ap Err fault, refl))); slices = same_slices })

pub returns-then-not-is_within : goal.returns-then-not-is_within
returns-then-not-is_within g c =
    let first = at_first c.new-lines.ensures.all (rw c.in_ok-sizes.ensures.ok_part at c.first_line.ensures) in
    record { reads = read_by (inr (_, (_, first), inl (λ w. false≢true (c.if-not-is_within.ensures.1 w), (refl, refl)))); slices = same_slices }

pub returns-then-not-has_room : goal.returns-then-not-has_room
returns-then-not-has_room g c =
    let first = at_first c.new-lines.ensures.all (rw c.in_ok-sizes.ensures.ok_part at c.first_line.ensures) in
    record {
      reads = read_by (inr (_, (_, first), inr (c.if-not-is_within.ensures.0 refl, inl (λ w. false≢true (c.if-not-has_room.ensures.1 w), (refl, refl)))));
      slices = same_slices;
    }

pub returns-in_err-check : goal.returns-in_err-check
returns-in_err-check g c =
    let p = err_from_is_err_and c.from_residual-in_err-check.result c.from_residual-in_err-check.ensures.1 in
    let first = at_first c.new-lines.ensures.all (rw c.in_ok-sizes.ensures.ok_part at c.first_line.ensures) in
    let told = c.in_err-check.ensures in
    rw (p.1, p.2) (record {
      reads = read_by (inr (_, (_, first), inr (c.if-not-is_within.ensures.0 refl, inr (c.if-not-has_room.ensures.0 refl, inl (told.0, told.2 _ first, (ap Err told.1, refl))))));
      slices = same_slices;
    })

pub fill_entries-requires : goal.fill_entries-requires
fill_entries-requires g c =
    let all = c.in_ok-check.ensures in
    let parcels = c.fill_parcels.ensures.parcels in
    let many : length parcels.0 ≡ c.in_ok-sizes.sizes.parcels = omega (arith, parcels.1) in
    rw c.fill_parcels.ensures.sizes (record {
      room = room_kept parcels.0 parcels.3 (c.if-not-has_room.ensures.0 refl);
      passed = (all.passed_entries, [], all.all_entries, subst (λ x. Entries g.K.Ranking.fields c.in_ok-sizes.sizes.parcels all.passed_entries x []) (same_between all parcels.2 many) all.entries);
    })

pub returns : goal.returns
returns g c =
    let first = at_first c.new-lines.ensures.all (rw c.in_ok-sizes.ensures.ok_part at c.first_line.ensures) in
    let all = c.in_ok-check.ensures in
    let parcels = c.fill_parcels.ensures.parcels in
    let entries = rw c.fill_parcels.ensures.sizes at c.fill_entries.ensures.entries in
    let z = c.in_ok-sizes.sizes in
    let many : length parcels.0 ≡ z.parcels = omega (arith, parcels.1) in
    let end = passed_end all parcels.2 many entries.2 entries.1 in
    let l = listed first parcels.0 parcels.2 many entries.0 entries.2 entries.1 end in
    let tables = entries.3 ∙ ap (with_entries g.K.Ranking.made z.parcels entries.0) parcels.3 in
    record {
      reads = read_by (inr (_, (_, first), inr (c.if-not-is_within.ensures.0 refl, inr (c.if-not-has_room.ensures.0 refl, inr (_, l, refl, refl, tables)))));
      slices = slices_through c.fill_parcels.ensures.slices c.fill_entries.ensures.slices;
    }
