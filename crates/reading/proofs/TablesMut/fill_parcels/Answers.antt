use Rattle.std.proofs.Common.{[], ◌∷◌, ◌++◌, sym, refl, ap, ◌∙◌, subst, append-nil, arith}
use Rattle.std.proofs.lemmas.List.{length-set}
use Rattle.text.specs.Parts.{left}
use Rattle.text.specs.Rows.{Begins, none}
use Rattle.reading.proofs.Lent.{same_slices}
use Rattle.reading.proofs.Lists.{one_longer, laid_more}
use Rattle.reading.proofs.Next.{next_parcel}
use Rattle.reading.proofs.Passed.{parcels_push}
use Rattle.reading.proofs.TablesMut.fill_parcels.Goals as goal

pub loop-i-init : goal.loop-i-init
loop-i-init g c = ([], refl, record { fit = tt; written = none refl }, refl, refl, same_slices)

pub unreachable-requires : goal.unreachable-requires
unreachable-requires g c =
    let so = c.loop-i.invariant in
    let was = c.requires.passed in
    let all = subst (λ rows. Begins rows (left c.args.body.now.lines) was.1) (sym (append-nil _)) was.3.written in
    let next = next_parcel was.0 [] so.2 was.3.fit all c.loop-i.i so.1 (omega (arith, was.2)) in
    c.in_default.ensures next.0 next.1 next.2 next.3

pub loop-i-preserved : goal.loop-i-preserved
loop-i-preserved g c =
    let so = c.loop-i.invariant in
    let told = c.in-Some.ensures in
    let p = c.in-Some.parcel in
    let room = c.requires.room in
    let same = so.5 in
    let stores = laid_more (λ q. q.store) so.0 p _ _ _ c.loop-i.i (ap (λ t. t.stores) so.4) so.1 (omega (arith, room.stores)) refl in
    let editions = laid_more (λ q. q.edition) so.0 p _ _ _ c.loop-i.i (ap (λ t. t.editions) so.4) so.1 (omega (arith, room.editions)) refl in (
      so.0 ++ p ∷ [],
      one_longer so.0 p so.1,
      parcels_push p so.2 so.1 told.0 told.1,
      so.3,
      λ i. record (so.4 i) { stores = stores i; editions = editions i },
      record {
        starts = same.starts;
        others = same.others;
        keys = same.keys;
        stores = same.stores;
        editions = same.editions;
        starts_long = same.starts_long;
        others_long = same.others_long;
        keys_long = same.keys_long;
        stores_long = length-set _ _ _ ∙ same.stores_long;
        editions_long = length-set _ _ _ ∙ same.editions_long;
      },
    )
