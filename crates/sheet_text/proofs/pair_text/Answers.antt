use Rattle.std.proofs.Common.{◌≡◌, ℕ, List, ◌++◌, length, drop, sym, refl, ap, ◌∙◌, subst, arith, length-take}
use Rattle.std.proofs.lemmas.Bool.{false≢true}
use Rattle.std.proofs.lemmas.Result.{err_from_is_err_and}
use Rattle.ranking.specs.Kinds.{cents_atleast}
use Rattle.ranking.specs.declared.Cents.{Cents}
use Rattle.records.specs.declared.record.Record.{Record}
use Rattle.chains.specs.declared.Slot.{Slot}
use Rattle.reading.specs.declared.Sizes.{Sizes}
use Rattle.reading.specs.Outcome.{Tables}
use Rattle.sheet.specs.Graph.{parcels, entries}
use Rattle.sheet.specs.View.{graph}
use Rattle.sheet.specs.Held.{held}
use Rattle.sheet.specs.Check.{Alike}
use Rattle.sheet_text.specs.Checking.{by_reading}
use Rattle.sheet_text.specs.Pairing.{memory, Untouched, by_text, by_memory, SettlesAndPrints}
use Rattle.sheet_text.proofs.Texts.{found, room_after, checks_by, refused_by}
use Rattle.sheet_text.proofs.Rounds.{paired_or_short}
use Rattle.sheet_text.proofs.pair_text.Goals as goal

-- where only the tables were written
untouched : {read filled : Tables Cents} {records : List Record} {marks : List ℕ} {slots : List Slot} {out : List ℕ} → Untouched (memory read records marks slots out) (memory filled records marks slots out)
untouched = record { records = refl; marks = refl; slots = refl }

pub returns-in_err-sizes-clause-pairs : goal.returns-in_err-sizes-clause-pairs
returns-in_err-sizes-clause-pairs c =
    let p = err_from_is_err_and c.from_residual.result c.from_residual.ensures.1 in
    rw (p.1, p.2) (by_text (by_reading c.in_err-sizes.ensures.reads) untouched, refl {a = c.args.out.now})

pub returns-in_err-check-clause-pairs : goal.returns-in_err-check-clause-pairs
returns-in_err-check-clause-pairs c =
    let p = err_from_is_err_and c.from_residual-in_err-check.result c.from_residual-in_err-check.ensures.1 in
    let told = c.in_err-check.ensures in
    rw (p.1, p.2) (by_text (refused_by (found c.in_ok-sizes.ensures.reads) c.in-Some.ensures.1 told.0 told.1) untouched, refl {a = c.args.out.now})

pub unreachable-requires : goal.unreachable-requires
unreachable-requires c = absurd (c.in_default.ensures (room_after (found c.in_ok-sizes.ensures.reads)))

pub returns-then-not-enough-clause-pairs : goal.returns-then-not-enough-clause-pairs
returns-then-not-enough-clause-pairs c =
    let text = found c.in_ok-sizes.ensures.reads in
    let n = ap (λ (s : Sizes). s.parcels) text.sizes in
    let e = ap (λ (s : Sizes). s.entries) text.sizes in
    (by_memory (checks_by text c.in-Some.ensures.1 c.in_ok-check.ensures.0) (λ enough. false≢true (c.if-not-enough.ensures.1 (record { records = omega (arith, n, enough.records); marks = omega (arith, e, enough.marks); slots = omega (arith, e, enough.slots) }))) untouched, refl {a = c.args.out.now})

pub settle_sheet-requires : goal.settle_sheet-requires
settle_sheet-requires c =
    let text = found c.in_ok-sizes.ensures.reads in
    let told = c.in_ok-check.ensures in
    let kept = ap graph told.1 in
    let same = kept ∙ c.in-Some.ensures.1 ∙ text.first in
    let enough = c.if-not-enough.ensures.0 refl in
    let n : parcels (held c.check.new.sheet) ≡ c.in_ok-sizes.sizes.parcels = ap parcels same ∙ text.parcels_many in
    let e : entries (held c.check.new.sheet) ≡ c.in_ok-sizes.sizes.entries = ap entries same ∙ text.entries_many in
    record {
      alike = subst (Alike cents_atleast) (sym kept) told.0.alike;
      records_long = simp length-take (omega (arith, enough.records));
      marks_long = simp length-take (omega (arith, enough.marks));
      slots_enough = omega (arith, enough.slots);
    }

pub returns-clause-pairs : goal.returns-clause-pairs
returns-clause-pairs c =
    let text = found c.in_ok-sizes.ensures.reads in
    let told = c.in_ok-check.ensures in
    let enough = c.if-not-enough.ensures.0 refl in
    let n = ap (λ (s : Sizes). s.parcels) text.sizes in
    let e = ap (λ (s : Sizes). s.entries) text.sizes in
    let rs = c.settle_sheet.new.records in
    let old = c.args.memory.now.records.now in
    let ms = c.settle_sheet.new.marks in
    let marks = c.args.memory.now.marks.now in
    let marked : c.in_ok-sizes.sizes.entries ≡ length ms = omega (arith, enough.marks, c.settle_sheet.auto.marks, length-take c.in_ok-sizes.sizes.entries marks) in
    let long : c.in_ok-sizes.sizes.parcels ≡ length rs = omega (arith, enough.records, c.settle_sheet.auto.records, length-take c.in_ok-sizes.sizes.parcels old) in
    paired_or_short _ _ rs ms c.settle_sheet.result
    (checks_by text c.in-Some.ensures.1 told.0)
    (record { records = omega (arith, enough.records); marks = omega (arith, enough.marks); slots = omega (arith, enough.slots) })
    (ap (λ k. rs ++ drop k old) long)
    (ap (λ k. ms ++ drop k marks) marked)
    (subst (λ t. SettlesAndPrints t rs ms c.args.out.now c.settle_sheet.result c.settle_sheet.new.out) (ap graph told.1 ∙ c.in-Some.ensures.1 ∙ text.first) c.settle_sheet.ensures)
