-- A round that ended leaves all as the next one needs it. Assumes nothing.
use Rattle.std.proofs.Common.{◌≡◌, ℕ, ◌≤◌, Bool, sym, refl, ◌∙◌, subst}
use Rattle.sheet.specs.Graph.{Graph, entries}
use Rattle.protocol.specs.World.{World}
use Rattle.protocol.specs.Runs.{Ran, other_sizes, still, spent, refused_start, refused_fetch, then_start, then_fetch}
use Rattle.protocol.specs.declared.Ending.{Ending}
use Rattle.protocol.proofs.Holds.{fits_facts}
use Rattle.round.specs.Closing.{Closed}
use Rattle.records.specs.declared.ledger.Totals.{Totals}
use Rattle.rounds.specs.Settling.{CameTo, Ready}

module _ {K : Type 0} (atleast : K → K → Bool) (t : Graph K) where
  -- a run keeps the line's capacity
  ran_capacity : {b n : ℕ} {e : Ending} {w w' : World} → Ran atleast t b w n e w' → w'.capacity ≡ w.capacity
  ran_capacity (other_sizes _) = refl
  ran_capacity (still _ _) = refl
  ran_capacity (spent _ _) = refl
  ran_capacity (refused_start _ _ _) = refl
  ran_capacity (refused_fetch _ _ _) = refl
  ran_capacity (then_start _ s more) = ran_capacity more ∙ s.changes.capacity
  ran_capacity (then_fetch _ f more) = ran_capacity more ∙ f.changes.capacity

  pub ready_again : {w : World} {x : Totals} → CameTo atleast t w → Closed t w x → Ready t w.records w.marks w.waiting w.capacity
  ready_again {w} came closed =
      let facts = fits_facts t w closed.closable.fitting in
      record {
        records_long = facts.records_long;
        marks_long = facts.marks_long;
        empty = closed.closable.settled.empty;
        room = subst (λ n. entries t ≤ n) (sym (ran_capacity came.ran)) came.opened.room;
      }
