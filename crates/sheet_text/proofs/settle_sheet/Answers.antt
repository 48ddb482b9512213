use Rattle.sheet_text.proofs.Rounds.{printed_or_short}
use Rattle.sheet_text.proofs.settle_sheet.Goals as goal

pub returns : goal.returns
returns c = printed_or_short c.args.out.now c.result_text.new.buffer c.result_text.result c.in_ok-totals.ensures c.result_text.ensures
