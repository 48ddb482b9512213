use Rattle.std.proofs.Common.{◌≡◌, ◌≤◌, length, sym, ap, ◌∙◌, subst, ⊎_elim, arith}
use Rattle.std.proofs.lemmas.Bool.{both_ways}
use Rattle.sheet.specs.View.{graph}
use Rattle.sheet.specs.Held.{held}
use Rattle.sheet.specs.Graph.{parcels, entries}
use Rattle.round.specs.Closing.{line_unfit, wrong_length}
use Rattle.round.proofs.closing.try_open.Goals.{then-not-is_empty-via-then-not-is_empty, then-not-is_empty-via-else-not-is_empty+then-size-entries}
use Rattle.round.proofs.closing.try_open.Goals as goal

pub returns-then-not-is_empty : goal.returns-then-not-is_empty
returns-then-not-is_empty g c =
    line_unfit (λ none room.
    elim c.then-not-is_empty.branch [
      | then-not-is_empty-via-then-not-is_empty w ↦ both_ways c.is_empty.result w.if-not-is_empty.true (c.is_empty.ensures.1 none)
      | then-not-is_empty-via-else-not-is_empty+then-size-entries w ↦
          let e = ap (λ x. entries (graph x)) c.tables-tables.ensures in
          omega (arith, w.if-size-entries.true, w.size.ensures, room, e)
    ])

pub returns-then-records-parcels : goal.returns-then-records-parcels
returns-then-records-parcels g c =
    let s = c.args.sheet.now in
    let room : entries (held s) ≤ c.size.result = subst (λ x. entries (graph x) ≤ c.size.result) c.tables-tables.ensures c.if-size-entries.false in
    let n : length c.tables-tables.result.stores.now ≡ parcels (held s) = ap (λ x. parcels (graph x)) c.tables-tables.ensures in
    let e : length c.tables-tables.result.others.now ≡ entries (held s) = ap (λ x. entries (graph x)) c.tables-tables.ensures in
    wrong_length (c.is_empty.ensures.0 c.if-not-is_empty.false) (omega (arith, room, c.size.ensures)) (λ a b. ⊎_elim (λ un. un (a ∙ sym n)) (λ un. un.1 (b ∙ sym e)) c.then-records-parcels.either)
