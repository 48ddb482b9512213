-- A round of a checked sheet, and the text of its result. Assumes nothing.
use Rattle.std.proofs.Common.{◌≡◌, ℕ, ◌<◌, List, length, Ok, Err, Result, sym, refl, ◌∙◌, subst}
use Rattle.faults.specs.declared.Refusal.{Refusal}
use Rattle.faults.specs.Numbers.{number}
use Rattle.ranking.specs.declared.Cents.{Cents}
use Rattle.ranking.specs.Kinds.{cents_atleast}
use Rattle.reading.specs.Listing.{Listing}
use Rattle.reading.specs.Outcome.{laid}
use Rattle.sheet.specs.Graph.{Graph}
use Rattle.line.specs.declared.Note.{Note}
use Rattle.records.specs.declared.record.Record.{Record}
use Rattle.records.specs.declared.ledger.Totals.{Totals}
use Rattle.records.specs.Right.{Right}
use Rattle.records.specs.Listed.{lower_pairs}
use Rattle.records.proofs.Refusals.{refused_not_right}
use Rattle.protocol.specs.World.{World}
use Rattle.protocol.proofs.Holds.{fits_facts}
use Rattle.round.specs.Closing.{OpenRefused, Closed}
use Rattle.round.specs.declared.state.Round.{Round}
use Rattle.rounds.specs.Settling.{Settles, Settling, SettlesOrUnopened, DoesNotRefuse}
use Rattle.results.specs.Text.{result_text, Printed, TextRefused, by_records, short}
use Rattle.sheet_text.specs.Checking.{sheet_of, Checks}
use Rattle.sheet_text.specs.Pairing.{Memory, Enough, Settled, Unpaired, by_out, Pairing, SettlesAndPrints}

-- worlds that have one line and the same tables and were closed with the same totals are one
pub same_end : {t : Graph Cents} {x : Totals} (v w : World) → v.records ≡ w.records → v.marks ≡ w.marks → v.waiting ≡ w.waiting → v.capacity ≡ w.capacity → v.next ≡ w.next → Closed t v x → Closed t w x → v ≡ w
same_end {t} v w records marks waiting capacity next a b =
    let f = fits_facts t v a.closable.fitting in
    let g = fits_facts t w b.closable.fitting in
    let parcel_count = f.parcel_count ∙ sym g.parcel_count in
    let entry_count = f.entry_count ∙ sym g.entry_count in
    let store_count = f.store_count ∙ sym g.store_count in
    let turns = sym a.turns ∙ b.turns in
    let sent = sym a.sent ∙ b.sent in
    λ i. record { parcel_count = parcel_count i; entry_count = entry_count i; store_count = store_count i; turns = turns i; sent = sent i; records = records i; marks = marks i; waiting = waiting i; capacity = capacity i; next = next i }

-- settling a round answers its totals, where it does not refuse; and these are its records and marks
module _ (t : Graph Cents) {B : Type 0} (see : Round → World) (was-rs : List Record) (was-ms : List ℕ) (was-waiting : List Note) (was-capacity : ℕ) (was is : B) (rs : List Record) (ms : List ℕ) (recorded : (x : Round) → (see x).records ≡ rs) (marked : (x : Round) → (see x).marks ≡ ms) (one-line : (x y : Round) → ((see x).waiting ≡ (see y).waiting) × ((see x).capacity ≡ (see y).capacity) × ((see x).next ≡ (see y).next)) where
  abbrev Unopened : ℕ → ℕ → Type 0
  Unopened k p = OpenRefused t was-rs was-ms was-waiting was-capacity k p × (is ≡ was)

  pub settled_over : (r : Result Totals (Refusal × ℕ)) → Settling cents_atleast t see Unopened r → SettlesOrUnopened cents_atleast t see Unopened r → DoesNotRefuse r → elim r as (λ _. Type 0) [ Ok x ↦ Settled t rs ms x | Err _ ↦ ⊥ ]
  settled_over (Ok x) did settles _ =
      let v = settles.0 in
      let w = did.0.round in
      let line = one-line v w in
      let same = same_end (see v) (see w) (recorded v ∙ sym (recorded w)) (marked v ∙ sym (marked w)) line.0 line.1 line.2 settles.1.closed did.1 in
      record { end = see w; came = did.0.came; settles = subst (λ u. Settles cents_atleast t u x) same settles.1; recorded = recorded w; marked = marked w }
  settled_over (Err _) _ _ none = none

-- records that are right are not refused, so that only a short buffer is
only_short : {t : Graph Cents} {rs : List Record} {x : Totals} {room k p : ℕ} → Right t rs → TextRefused t rs x room k p → (k ≡ 3) × (p ≡ 0) × (room < length (result_text x (lower_pairs t rs)))
only_short {t} {rs} right (by_records r) = absurd (refused_not_right t rs r right)
only_short right (short _ less) = (refl, refl, less)

pub printed_or_short : {t : Graph Cents} {rs : List Record} {ms : List ℕ} {x : Totals} (old new : List ℕ) (r : Result ℕ (Refusal × ℕ)) → Settled t rs ms x → elim r as (λ _. Type 0) [ Ok count ↦ Printed t rs x old new count | Err f ↦ TextRefused t rs x (length old) (number f.0) f.1 × (new ≡ old) ] → SettlesAndPrints t rs ms old r new
printed_or_short {x} old new (Ok count) s h = (x, s, h)
printed_or_short {t} {x} old new (Err f) s h =
    let why = only_short (subst (Right t) s.recorded s.settles.closed.closable.right) h.0 in
    (x, s, why.2, why.0, why.1, h.1)

-- from the settled sheet to what pairing its text answers
pub paired_or_short : {bs : List ℕ} {l : Listing} (before after : Memory) (rs : List Record) (ms : List ℕ) (r : Result ℕ (Refusal × ℕ)) → Checks bs before.tables after.tables l → Enough l.sizes before → after.records ≡ laid rs before.records → after.marks ≡ laid ms before.marks → SettlesAndPrints (sheet_of l) rs ms before.out r after.out → Pairing bs before r after
paired_or_short {l} before after rs ms (Ok count) checks enough recorded marked (x, s, printed) =
    record { listing = l; records = rs; marks = ms; totals = x; rounds = record { checks = checks; enough = enough; settled = s; recorded = recorded; marked = marked }; printed = printed }
paired_or_short {bs} before after rs ms (Err f) checks enough recorded marked (x, s, less, is, at, kept) =
    (subst (λ k. Unpaired bs before after k f.1) (sym is) (subst (Unpaired bs before after 3) (sym at) (by_out (record { checks = checks; enough = enough; settled = s; recorded = recorded; marked = marked }) less)), kept)
