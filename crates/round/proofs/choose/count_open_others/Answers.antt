use Rattle.std.proofs.Common.{rules, ◌≡◌, ℕ, ◌-◌, Bool, not, ◌&&◌, eqb, length, filter, sym, refl, ap, ◌∙◌}
use Rattle.std.proofs.lemmas.Iterator.{YieldsList-from_range}
use Rattle.std.proofs.lemmas.Iterator.Consumers.{YieldsList-from_filter, count_from_yields_List}
use Rattle.sheet.specs.Graph.{row_start, row_end}
use Rattle.sheet.specs.Held.{held}
use Rattle.protocol.specs.Marks.{open', places_from}
use Rattle.round.proofs.Rows.{places_are, row_ends}
use Rattle.round.proofs.choose.count_open_others.Goals as goal

pub returns : goal.returns
returns g c =
    let t = held c.args.sheet.now in
    let row = c.row.result in
    let ends : (row.start ≡ row_start t c.args.u) × (row.end ≡ row_end t c.args.u) = rw c.row.ensures (row_ends t c.args.u c.requires.parcel) in
    let test : ℕ → Bool = λ q. open' c.args.marks.now q && not (eqb q c.args.keep) in
    count_from_yields_List _ c.count.result c.count.ensures.ran (YieldsList-from_filter _ test (YieldsList-from_range row.start row.end (row.end - row.start) c.filter-others.ensures.source refl) c.filter-others.ensures.closure (λ x b q k. search rules))
    ∙ ap (λ l. length (filter test l)) (sym (places_are (row.end - row.start) row.start))
    ∙ ap (λ n. length (filter test (places_from (row.end - n) n))) ends.0 ∙ ap (λ n. length (filter test (places_from (n - row_start t c.args.u) (row_start t c.args.u)))) ends.1
