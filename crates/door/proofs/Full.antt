-- Memory for the full limits is never too short. Assumes nothing.
use Rattle.std.proofs.Common.{◌≡◌, ℕ, ◌+◌, Bool, true, cond, List, length, Ok, Err, Result, sym, ap, ◌∙◌, subst, inl, inr, arith}
use Rattle.std.proofs.lemmas.List.FromFn.{length-map-range_with_len}
use Rattle.std.proofs.lemmas.List.{length-map}
use Rattle.std.proofs.lemmas.Bool.{both_ways}
use Rattle.std.proofs.lemmas.Bool.Decides.{nat_tests}
use Rattle.faults.specs.declared.Refusal.{Refusal}
use Rattle.faults.specs.Numbers.{number}
use Rattle.ranking.specs.declared.Cents.{Cents}
use Rattle.ranking.specs.Kinds.{cents_atleast, cents_key}
use Rattle.reading.specs.declared.Sizes.{Sizes}
use Rattle.reading.specs.Listing.{Listing, Listed}
use Rattle.reading.specs.Outcome.{Tables, Within, Room, Outcome}
use Rattle.sheet.specs.Graph.{parcels, entries, fitted, rises, mirrored, sides_alike, one_edition}
use Rattle.sheet.specs.Check.{Refused, size, table, parcel, entry}
use Rattle.sheet_text.specs.Checking.{sheet_of, TextRefused, by_reading, by_check}
use Rattle.sheet_text.specs.Pairing.{Memory, Unpaired, by_text, by_memory, by_out}
use Rattle.sheet_text.specs.Within.{TablesFor, MemoryFor}
use Rattle.sheet_text.proofs.Texts.{never}
use Rattle.sheet_text.proofs.Numbers.{number_of}
use Rattle.sheet_text.specs.Within.{CheckingWithin, PairingWithin}
use Rattle.door.specs.declared.Answer.{Answer}
use Rattle.door.specs.declared.Verdict.{Verdict}
use Rattle.door.specs.Answers.{Answers, Decides, Short}

full_room : {z : Sizes} {t : Tables Cents} → Within z → TablesFor 1024 16384 t → Room z t
full_room w f = record {
  starts = omega (arith, w.parcels, f.starts);
  others = omega (arith, w.entries, f.others);
  keys = omega (arith, w.entries, f.keys);
  stores = omega (arith, w.parcels, f.stores);
  editions = omega (arith, w.parcels, f.editions);
}

by_read : {bs : List ℕ} {before after : Tables Cents} {f : Refusal × ℕ} → TablesFor 1024 16384 before → Outcome cents_key 1 bs before (Err f) after → number f.0 ≡ 3 → ⊥
by_read full (inl (_, (e, _))) is = omega (arith, is, number_of e)
by_read full (inr (_, _, inl (_, (e, _)))) is = omega (arith, is, number_of e)
by_read full (inr (_, _, inr (within, inl (short, _)))) is = short (full_room within full)
by_read full (inr (_, _, inr (_, inr (_, inl (_, _, (e, _)))))) is = omega (arith, is, number_of e)
by_read full (inr (_, _, inr (_, inr (_, inr (_, _, _, e, _))))) is = never (sym e)

-- what was read is within the limits
read_within : {bs : List ℕ} {before after : Tables Cents} {z : Sizes} → Outcome cents_key 1 bs before (Ok z) after → Within z
read_within (inl (_, (e, _))) = never e
read_within (inr (_, _, inl (_, (e, _)))) = never e
read_within (inr (_, _, inr (_, inl (_, (e, _))))) = never e
read_within (inr (_, _, inr (_, inr (_, inl (_, _, (e, _)))))) = never e
read_within {z} (inr (y, _, inr (within, inr (_, inr (_, _, _, e, _))))) = let same : y ≡ z = cc in subst Within same within

-- the tables of a listing have their lengths
fitted_listing : {bs : List ℕ} {l : Listing} → Listed 1 l bs → fitted (sheet_of l) ≡ true
fitted_listing {l} h =
    let n = length-map l.parcels (λ p. p.store) in
    let starts : length (sheet_of l).starts ≡ parcels (sheet_of l) + 1 = length-map-range_with_len _ 0 (l.sizes.parcels + 1) ∙ ap (λ k. k + 1) (sym (n ∙ h.all_parcels)) in
    let keys : length (sheet_of l).keys ≡ entries (sheet_of l) = length-map l.entries _ ∙ sym (length-map l.entries _) in
    let editions : length (sheet_of l).editions ≡ parcels (sheet_of l) = length-map l.parcels _ ∙ sym n in
    grind (arith, nat_tests)

-- the lowest fault of an entry is one of 5 to 8, or 0
lowest : (a b c d : Bool) → ◌≡◌ {A = ℕ} (cond a (cond b (cond c (cond d 0 8) 7) 6) 5) 3 → ⊥
lowest a b c d e = grind (arith, nat_tests)

by_checked : {bs : List ℕ} {l : Listing} {k p : ℕ} → Listed 1 l bs → Refused cents_atleast (sheet_of l) k p → k ≡ 3 → ⊥
by_checked h (size _) is = omega arith
by_checked h (table _ unfit) is = both_ways _ unfit (fitted_listing h)
by_checked h (parcel _ _ _) is = omega arith
by_checked {l} {p} h (entry _ _ _ first) is =
    let t = sheet_of l in
    let u = first.row in
    lowest (rises t u p) (mirrored t u p) (sides_alike cents_atleast t u p) (one_edition t u p) (sym first.lowest ∙ is)

pub text_roomy : {bs : List ℕ} {before after : Tables Cents} {k p : ℕ} → TablesFor 1024 16384 before → TextRefused bs before after k p → k ≡ 3 → ⊥
text_roomy full (by_reading h) is = by_read full h.outcome is
text_roomy full (by_check reads _ why) is = by_checked reads.listed why is

pub only_short : {bs : List ℕ} {before after : Memory} {k p : ℕ} → MemoryFor 1024 16384 before → Unpaired bs before after k p → k ≡ 3 → Short bs (length before.out)
only_short full (by_text why _) is = absurd (text_roomy full.tables why is)
only_short full (by_memory checks short _) is =
    let within = read_within checks.reads.read.outcome in
    absurd (short (record { records = omega (arith, within.parcels, full.records); marks = omega (arith, within.entries, full.marks); slots = omega (arith, within.entries, full.slots) }))
only_short full (by_out rounds less) is = record { listing = _; records = _; marks = _; totals = _; listed = rounds.checks.reads.listed; settled = rounds.settled; less = less }

-- a text that is refused with 3 by the check is none, and by the pairing one whose result text has no room
pub roomy : {bs : List ℕ} (v : Verdict) (q : Result Sizes (Refusal × ℕ)) → Decides v q → CheckingWithin 1024 16384 bs q → v.number ≡ 3 → ⊥
roomy v (Ok _) shown told is = omega (arith, is, ap (λ (v : Verdict). v.number) shown)
roomy v (Err f) shown told is = text_roomy told.sized told.checking (sym (ap (λ (v : Verdict). v.number) shown.0) ∙ is)

pub short_answer : {bs old new : List ℕ} (a : Answer) (q : Result ℕ (Refusal × ℕ)) → Answers a q → PairingWithin 1024 16384 bs old q new → a.number ≡ 3 → Short bs (length old)
short_answer a (Ok _) shown told is = absurd (omega (arith, is, ap (λ (a : Answer). a.number) shown))
short_answer {bs} a (Err f) shown told is =
    subst (λ old. Short bs (length old)) told.out_before (only_short told.sized told.pairing.0 (sym (ap (λ (a : Answer). a.number) shown.0) ∙ is))
