use Rattle.std.proofs.Common.{◌≡◌, ◌+◌, ◌<◌, ◌≤◌, [], ◌∷◌, ◌++◌, map, length, sym, refl, ap, ◌∙◌, subst, arith}
use Rattle.std.proofs.lemmas.List.{map_push, length-set}
use Rattle.text.specs.Rows.{none}
use Rattle.reading.specs.Listing.{NeverFalls, key_of}
use Rattle.reading.specs.Outcome.{tables}
use Rattle.reading.proofs.Lent.{same_slices}
use Rattle.reading.proofs.Lists.{one_longer, laid_more}
use Rattle.reading.proofs.Starts.{Written, started_to, started_push, started_all}
use Rattle.reading.proofs.Next.{next_entry}
use Rattle.reading.proofs.Passed.{row_of, last_row, falls_last, entries_push}
use Rattle.reading.proofs.TablesMut.fill_entries.Goals as goal

pub loop-j-init : goal.loop-j-init
loop-j-init g c = (
  [],
  refl,
  refl,
  omega arith,
  omega arith,
  record { fit = tt; in_order = tt; written = none refl },
  record { rows = tt; counted = λ w l. absurd (omega arith); kept = λ w l. refl },
  refl,
  refl,
  refl,
  refl,
  same_slices,
)

pub unreachable-requires : goal.unreachable-requires
unreachable-requires g c =
    let so = c.loop-j.invariant in
    let was = c.requires.passed in
    let less : length so.0 < length was.0 = omega (arith, so.1, was.2) in
    let next = next_entry was.0 so.5 was.3 less in
    let low = falls_last (map row_of so.0) next.0.row (subst NeverFalls (map_push row_of so.0 next.0) next.3) in
    c.in_default.ensures next.0 next.1 next.2 (omega (arith, so.2)) next.4

pub loop-j-preserved : goal.loop-j-preserved
loop-j-preserved g c =
    let so = c.loop-j.invariant in
    let told = c.in-Some.ensures in
    let x = told.entry in
    let room = c.requires.room in
    let same = so.11 in
    let low = c.in-Some.entry.row in
    let known : low < c.args.body.now.sizes.parcels = omega (arith, told.row, told.fit.known) in
    let above : c.loop-j.started ≤ low + 1 = omega (arith, so.3, told.row, told.in_order) in
    let new : Written c.loop-j.self.starts.now c.fill_starts.new.starts c.loop-j.started (low + 1) c.loop-j.j = record { before = c.fill_starts.ensures.before; within = λ k h l. let w = c.fill_starts.ensures.within k h l in omega arith; after = c.fill_starts.ensures.after } in (
      so.0 ++ x ∷ [],
      one_longer so.0 x so.1,
      last_row so.0 x ∙ sym told.row,
      omega arith,
      omega arith,
      entries_push x so.5 told.fit (omega (arith, so.2, told.in_order)) told.written,
      started_push x (started_to (low + 1) so.6 (subst (Written _ _ _ _) (sym so.1) new) above) (ap (λ n. n + 1) told.row),
      laid_more (λ y. y.other) so.0 x _ _ _ c.loop-j.j so.7 so.1 (omega (arith, room.others)) told.other,
      laid_more (key_of g.K.Ranking.made) so.0 x _ _ _ c.loop-j.j so.8 so.1 (omega (arith, room.keys)) told.key,
      so.9,
      so.10,
      record {
        starts = same.starts;
        others = same.others;
        keys = same.keys;
        stores = same.stores;
        editions = same.editions;
        starts_long = c.fill_starts.auto.starts ∙ same.starts_long;
        others_long = length-set _ _ _ ∙ same.others_long;
        keys_long = length-set _ _ _ ∙ same.keys_long;
        stores_long = same.stores_long;
        editions_long = same.editions_long;
      },
    )

pub returns : goal.returns
returns g c =
    let so = c.loop-j.invariant in
    let all : length so.0 ≡ c.args.body.now.sizes.entries = omega (arith, so.1) in
    let same = so.11 in
    let new : Written c.loop-j.self.starts.now c.fill_starts-2.new.starts c.loop-j.started (c.args.body.now.sizes.parcels + 1) c.args.body.now.sizes.entries = record { before = c.fill_starts-2.ensures.before; within = c.fill_starts-2.ensures.within; after = c.fill_starts-2.ensures.after } in
    let starts = started_all c.args.body.now.sizes.parcels (started_to (c.args.body.now.sizes.parcels + 1) so.6 (subst (Written _ _ _ _) (sym all) new) (omega (arith, so.4))) (c.fill_starts-2.auto.starts ∙ same.starts_long) c.requires.room.starts in
    record {
      entries = (so.0, all, so.5, λ i. tables (starts i) (so.7 i) (so.8 i) (so.9 i) (so.10 i));
      slices = record {
        starts = same.starts;
        others = same.others;
        keys = same.keys;
        stores = same.stores;
        editions = same.editions;
        starts_long = c.fill_starts-2.auto.starts ∙ same.starts_long;
        others_long = same.others_long;
        keys_long = same.keys_long;
        stores_long = same.stores_long;
        editions_long = same.editions_long;
      };
    }
