use Rattle.std.proofs.Common.{◌≡◌, ◌+◌, sym, ◌∙◌, subst, arith}
use Rattle.sheet.specs.Graph.{row_start, other}
use Rattle.sheet.specs.Held.{held}
use Rattle.sheet.proofs.Held.{held_sound}
use Rattle.pairing.proofs.Entries.{other_below}
use Rattle.records.specs.Records.{state, chosen}
use Rattle.outright.specs.Settling.{Settles}
use Rattle.outright.proofs.Meeting.{Reach, reach}
use Rattle.outright.proofs.Told.{both_hold, not_both}
use Rattle.outright.proofs.Row.{row_within, neighbour, row_over}
use Rattle.outright.proofs.Running.{Along, along_passed, along_more, along_all}
use Rattle.outright.proofs.work.Work.renew_at.Goals as goal
use Rattle.outright.proofs.work.Work.renew_at.Goals.{then-waits_at, else-waits_at}

pub offset_bounds-tables-row : goal.offset_bounds-tables-row
offset_bounds-tables-row g c =
    let row = row_within c.args.sheet.now c.tables-tables.result c.tables-tables.ensures c.args.u c.requires.parcel c.row.result c.row.ensures in
    omega (arith, row.0, row.2)

pub slice_bounds-row-end : goal.slice_bounds-row-end
slice_bounds-row-end g c =
    let row = row_within c.args.sheet.now c.tables-tables.result c.tables-tables.ensures c.args.u c.requires.parcel c.row.result c.row.ensures in
    omega (arith, row.1)

pub waits_at-requires : goal.waits_at-requires
waits_at-requires g c =
    let sheet = c.args.sheet.now in
    let t = held sheet in
    let sound = held_sound sheet in
    let rs = c.loop-v.self.records.now in
    let n = neighbour sheet c.tables-tables.result c.tables-tables.ensures c.args.u c.requires.parcel c.row.result c.row.ensures c.loop-v.v-index c.loop-v-test.true in
    let r = subst (Reach t rs) (sym n.is) (reach g.K.Ranking.atleast t sound rs (other t (row_start t c.args.u + c.loop-v.v-index)) c.loop-v.invariant.1.ready.kept (other_below t sound c.args.u (row_start t c.args.u + c.loop-v.v-index) n.here)) in
    record { its = r.its; place = r.place }

pub loop-v-preserved : goal.loop-v-preserved
loop-v-preserved g c =
    let atleast = g.K.Ranking.atleast in
    let laws = g.met.K.Ranking.lawful in
    let sheet = c.args.sheet.now in
    let t = held sheet in
    let sound = held_sound sheet in
    let u = c.args.u in
    let old = c.args.self.now in
    let w = c.loop-v.self in
    let rs = w.records.now in
    let q = row_start t u + c.loop-v.v-index in
    let n = neighbour sheet c.tables-tables.result c.tables-tables.ensures u c.requires.parcel c.row.result c.row.ensures c.loop-v.v-index c.loop-v-test.true in
    let next : q + 1 ≡ row_start t u + (c.loop-v.v-index + 1) = omega arith in
    elim c.if-waits_at.branch [
      | then-waits_at b ↦
          let new = b.settle.new.self in
          let one = subst (λ x. state rs x ≡ 1) n.is (both_hold (state rs _) 1 (chosen t rs _) u b.if-waits_at.ensures).0 in
          let settles = subst (λ x. Settles atleast t x rs w.worklist.now w.listed new.records.now new.worklist.now new.listed) n.is b.settle.ensures.settles in
          rw b.self-is (
            b.settle.ensures.same_reference ∙ c.loop-v.invariant.0,
            subst (λ p. Along atleast t u old.records.now old.worklist.now old.listed p new.records.now new.worklist.now new.listed) next
                (along_more atleast laws t sound u old.records.now old.worklist.now old.listed c.requires.paired q rs w.worklist.now w.listed new.records.now new.worklist.now new.listed c.loop-v.invariant.1 (other_below t sound u q n.here) one settles),
          )
      | else-waits_at b ↦
          let passed = subst (λ x. state rs x ≡ 1 → chosen t rs x ≡ u → ⊥) n.is (not_both (state rs _) 1 (chosen t rs _) u b.if-waits_at.ensures) in
          rw b.self-is (
            c.loop-v.invariant.0,
            subst (λ p. Along atleast t u old.records.now old.worklist.now old.listed p rs w.worklist.now w.listed) next
                (along_passed atleast laws t sound u old.records.now old.worklist.now old.listed c.requires.paired q rs w.worklist.now w.listed c.loop-v.invariant.1 passed),
          )
    ]

pub returns-clause-none_waits : goal.returns-clause-none_waits
returns-clause-none_waits g c =
    let sheet = c.args.sheet.now in
    let t = held sheet in
    let old = c.args.self.now in
    let w = c.loop-v.self in
    let over = row_over sheet c.tables-tables.result c.tables-tables.ensures c.args.u c.requires.parcel c.row.result c.row.ensures c.loop-v.v-index c.loop-v-test.false in
    along_all g.K.Ranking.atleast g.met.K.Ranking.lawful t (held_sound sheet) c.args.u old.records.now old.worklist.now old.listed c.requires.paired (row_start t c.args.u + c.loop-v.v-index) w.records.now w.worklist.now w.listed c.loop-v.invariant.1 over
