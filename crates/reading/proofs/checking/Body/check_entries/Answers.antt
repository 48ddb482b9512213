use Rattle.std.proofs.Common.{◌≡◌, ◌+◌, [], ◌∷◌, ◌++◌, map, refl, subst, arith}
use Rattle.std.proofs.lemmas.List.{map_push}
use Rattle.std.proofs.lemmas.Result.{err_from_is_err_and}
use Rattle.faults.specs.declared.Refusal.TheVariants.{Line}
use Rattle.text.specs.Rows.{none}
use Rattle.reading.specs.Listing.{NeverFalls}
use Rattle.reading.proofs.Lists.{one_longer}
use Rattle.reading.proofs.Passed.{row_of, last_row, falls_last, entries_push}
use Rattle.reading.proofs.checking.Body.check_entries.Goals as goal

pub loop-j-init : goal.loop-j-init
loop-j-init g c = ([], refl, refl, record { fit = tt; in_order = tt; written = none refl }, refl)

pub returns-in_err-entry : goal.returns-in_err-entry
returns-in_err-entry g c =
    let so = c.loop-j.invariant in
    let p = err_from_is_err_and c.from_residual.result c.from_residual.ensures.1 in
    let told = rw c.in_err-entry.ensures.ok_part at c.entry_line.ensures in
    let refused = rw c.in_err-entry.ensures.ok_part at c.in_err-entry.ensures.value in
    let fault : c.in_err-entry.field-0.0 ≡ (Line, c.args.self.now.sizes.parcels + c.loop-j.j + 2) = cc in
    rw (p.1, p.2) (record {
      lines = (
        c.loop-j.j,
        omega arith,
        fault,
        record {
          passed = so.0;
          rest = _;
          entries = so.3;
          so_many = so.1;
          wrong = λ x after fit order b.
              let low = falls_last (map row_of so.0) x.row (subst NeverFalls (map_push row_of so.0 x) order) in
              told x after fit (omega (arith, so.2)) b;
        },
      );
      sizes = so.4;
    })

pub loop-j-preserved : goal.loop-j-preserved
loop-j-preserved g c =
    let so = c.loop-j.invariant in
    let told = rw c.in_ok-entry.ensures.ok_part at c.entry_line.ensures in
    let x = told.entry in
    let last-is = last_row so.0 x in (
      so.0 ++ x ∷ [],
      one_longer so.0 x so.1,
      omega (arith, told.row),
      entries_push x so.3 told.fit (omega (arith, so.2, told.in_order)) told.written,
      so.4,
    )
