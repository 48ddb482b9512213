use Rattle.std.proofs.Common.{◌≡◌, ℕ, ◌<◌, ◌≤◌, Bool, List, length, refl, sym, subst, rules}
use Rattle.sheet.specs.Graph.{Graph, parcels}
use Rattle.sheet.specs.View.{graph}
use Rattle.sheet.specs.Held.{held}
use Rattle.sheet.proofs.Held.{held_sound}
use Rattle.records.specs.Records.{chosen}
use Rattle.outright.specs.Outright.{Done, short_worklist, wrong_length}
use Rattle.records.specs.declared.record.Record.{Record}
use Rattle.outright.proofs.Finish.{finish}
use Rattle.outright.proofs.pair_outright.Goals as goal

pub returns-then-worklist-parcels : goal.returns-then-worklist-parcels
returns-then-worklist-parcels g c = (short_worklist (subst (λ x. length c.args.worklist.now < parcels (graph x)) c.tables.ensures c.if-worklist-parcels.true), refl, refl)

pub returns-then-records-parcels : goal.returns-then-records-parcels
returns-then-records-parcels g c = (
  wrong_length
      (subst (λ x. parcels (graph x) ≤ length c.args.worklist.now) c.tables.ensures c.if-worklist-parcels.false)
      (subst (λ x. length c.args.records.now ≡ parcels (graph x) → ⊥) c.tables.ensures c.if-records-parcels.true),
  refl,
  refl,
)

done_where : {K : Type 0} (atleast : K → K → Bool) (t : Graph K) (old : List Record) (work : List ℕ) (new rs : List Record) → new ≡ rs → Done atleast t old work rs → Done atleast t old work new
done_where atleast t old work new rs same done = subst (Done atleast t old work) (sym same) done

pub returns : goal.returns
returns g c =
    let sheet = c.args.sheet.now in
    let t = held sheet in
    let rs = c.renew_all.new.self.records.now in
    let after = c.renew_all.ensures in
    done_where g.K.Ranking.atleast t c.args.records.now c.args.worklist.now _ rs (search rules) (record {
      room = subst (λ x. parcels (graph x) ≤ length c.args.worklist.now) c.tables.ensures c.if-worklist-parcels.false;
      long = subst (λ x. length c.args.records.now ≡ parcels (graph x)) c.tables.ensures c.if-records-parcels.false;
      kept = after.kept.long;
      entire = λ same. finish g.K.Ranking.atleast g.met.K.Ranking.lawful t (held_sound sheet) same rs after.kept after.settled (λ u less one two. after.renewed (chosen t rs u) two u less one refl);
    })
