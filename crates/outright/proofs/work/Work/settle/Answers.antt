use Rattle.std.proofs.Common.{◌≡◌, ◌+◌, ◌-◌, set, refl, ap, ◌∙◌, subst}
use Rattle.sheet.specs.Graph.{Graph, row_start, other}
use Rattle.sheet.specs.View.{graph}
use Rattle.sheet.specs.Held.{held}
use Rattle.sheet.proofs.Held.{held_sound}
use Rattle.records.specs.Records.{state, choice, chosen}
use Rattle.outright.specs.Settling.{pairs, waits}
use Rattle.outright.proofs.Meeting.{meeting}
use Rattle.outright.proofs.Told.{both_hold, not_both}
use Rattle.outright.proofs.work.Work.settle.Goals as goal

pub waits_at-requires : goal.waits_at-requires
waits_at-requires g c =
    let sheet = c.args.sheet.now in
    let w = c.args.self.now in
    let m = meeting g.K.Ranking.atleast (held sheet) (held_sound sheet) w.records.now w.worklist.now w.listed c.args.v c.in-Some.p c.requires.ready c.requires.unpaired c.in-Some.ensures in
    rw c.tables-tables.ensures (record { its = m.reached.its; place = m.reached.place })

pub pair-requires-clause-room : goal.pair-requires-clause-room
pair-requires-clause-room g c =
    let sheet = c.args.sheet.now in
    let t = held sheet in
    let w = c.args.self.now in
    let p = c.in-Some.p in
    let rs = w.records.now in
    let m = meeting g.K.Ranking.atleast t (held_sound sheet) rs w.worklist.now w.listed c.args.v p c.requires.ready c.requires.unpaired c.in-Some.ensures in
    m.fits (subst (λ x. state rs (other (graph x) p) ≡ 1) c.tables-tables.ensures (both_hold (state rs _) 1 (chosen t rs _) c.args.v c.if-waits_at.ensures).0)

pub returns-then-waits_at-clause-settles : goal.returns-then-waits_at-clause-settles
returns-then-waits_at-clause-settles g c =
    let t = held c.args.sheet.now in
    let old = c.args.self.now in
    let new = c.pair.new.self in
    let rs = old.records.now in
    let v = c.args.v in
    let p = c.in-Some.p in
    let same = c.tables-tables.ensures in
    let test = both_hold (state rs _) 1 (chosen t rs _) v c.if-waits_at.ensures in
    let set_both = λ (u : Graph _). set (set rs v (record { state = 2; choice = p - row_start u v })) (other u p) (record { state = 2; choice = choice rs (other u p) }) in
    pairs p c.in-Some.ensures
    (subst (λ x. state rs (other (graph x) p) ≡ 1) same test.0)
    (subst (λ x. chosen t rs (other (graph x) p) ≡ v) same test.1)
    (subst (λ x. new.records.now ≡ set_both (graph x)) same c.pair.ensures.paired)
    (subst (λ x. new.worklist.now ≡ set (set old.worklist.now old.listed v) (old.listed + 1) (other (graph x) p)) same c.pair.ensures.work)
    c.pair.ensures.count

pub returns-else-waits_at-clause-settles : goal.returns-else-waits_at-clause-settles
returns-else-waits_at-clause-settles g c =
    let t = held c.args.sheet.now in
    let rs = c.args.self.now.records.now in
    let v = c.args.v in
    let p = c.in-Some.p in
    let same = c.tables-tables.ensures in
    waits p c.in-Some.ensures
    (subst (λ x. state rs (other (graph x) p) ≡ 1 → chosen t rs (other (graph x) p) ≡ v → ⊥) same (not_both (state rs _) 1 (chosen t rs _) v c.if-waits_at.ensures))
    (ap (set rs v) (c.new.ensures ∙ ap (λ x. record { state = 1; choice = p - row_start (graph x) v }) same)) refl refl
