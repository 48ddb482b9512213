use Rattle.std.proofs.Common.{◌≡◌, ◌≤◌, ◌++◌, length, refl, rules, arith}
use Rattle.std.specs.List.{flat_map}
use Rattle.std.proofs.lemmas.List.{length-append}
use Rattle.std.proofs.lemmas.Result.{err_from_is_err_and}
use Rattle.sheet.specs.Held.{held}
use Rattle.records.specs.Listed.{lower_pairs}
use Rattle.results.specs.Text.{totals_line, pair_line, by_records, short}
use Rattle.results.proofs.Put.{put_front, wrote_more}
use Rattle.results.proofs.printing.result_text.Goals as goal

pub returns-in_err-try_records : goal.returns-in_err-try_records
returns-in_err-try_records g c =
    let p = err_from_is_err_and c.from_residual.result c.from_residual.ensures.1 in
    rw (p.1, p.2) (by_records c.in_err-try_records.ensures, refl {a = c.args.buffer.now})

pub returns-then-buffer-line_length : goal.returns-then-buffer-line_length
returns-then-buffer-line_length g c =
    let first = totals_line c.args.totals in
    let rest = flat_map pair_line (lower_pairs (held c.args.ledger.sheet.now) c.args.ledger.records.now) in
    (short c.in_ok-try_records.ensures (omega (arith, c.if-buffer-line_length.true, c.line_length.ensures.value, c.pairs_length.ensures.value, length-append first rest)), refl {a = c.args.buffer.now})

pub returns : goal.returns
returns g c =
    let first = totals_line c.args.totals in
    let rest = flat_map pair_line (lower_pairs (held c.args.ledger.sheet.now) c.args.ledger.records.now) in
    let old = c.args.buffer.now in
    let long = length-append first rest in
    let room : length (first ++ rest) ≤ length old = omega (arith, c.if-buffer-line_length.false, c.line_length.ensures.value, c.pairs_length.ensures.value) in
    let wrote = wrote_more _ c.line.new.self first rest c.line.ensures (omega (arith, room)) c.write_pairs.new.text c.write_pairs.ensures in
    let count : c.write_pairs.new.text.count ≡ length (first ++ rest) = omega (arith, wrote.count) in
    record {
      right = c.in_ok-try_records.ensures;
      counted = count;
      fits = omega (arith, count, room);
      bytes = put_front old (first ++ rest) _ _ _ (search rules) wrote.bytes count;
    }
