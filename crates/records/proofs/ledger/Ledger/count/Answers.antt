use Rattle.std.proofs.Common.{filter, sym, ◌∙◌}
use Rattle.std.proofs.lemmas.List.{length-map}
use Rattle.std.proofs.lemmas.List.Sums.{length-filter}
use Rattle.std.specs.List.{range_with_len}
use Rattle.sheet.specs.Graph.{parcels}
use Rattle.sheet.specs.Held.{held}
use Rattle.records.specs.Listed.{pairs_up, own_pair}
use Rattle.records.proofs.Laws.{pairs_listed}
use Rattle.records.proofs.ledger.Ledger.count.Goals as goal

pub returns-clause-pairs : goal.returns-clause-pairs
returns-clause-pairs g c =
    let t = held c.args.self.sheet.now in
    let rs = c.args.self.records.now in
    let all = range_with_len 0 (parcels t) in
    c.count_pairs.ensures ∙ sym (length-map (filter (pairs_up t rs) all) (own_pair t rs) ∙ length-filter (pairs_up t rs) all)

pub returns-clause-listed : goal.returns-clause-listed
returns-clause-listed g c = pairs_listed (held c.args.self.sheet.now) c.args.self.records.now
