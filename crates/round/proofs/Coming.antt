-- What it says of a note that it comes to its store. Assumes nothing.
use Rattle.std.proofs.Common.{◌≡◌, ℕ, ◌<◌, Bool, true, false, cond, not, ◌||◌, eqb, ltb, ◌⊎◌, List, length, get_or, Some, None, unwrap_or, ap, inl, inr, ⊎_elim}
use Rattle.std.proofs.lemmas.Bool.{or_parts, or_cases, not-false, ltb-true, eqb-true, and_from, eq-eqb, lt-ltb}
use Rattle.line.specs.declared.Note.{Note}
use Rattle.records.specs.declared.record.Record.{Record}
use Rattle.records.specs.Records.{astray, strays_at}
use Rattle.sheet.specs.Graph.{Graph, InRow, parcels, row_end, place_of}
use Rattle.sheet.specs.Check.{Sound}
use Rattle.pairing.proofs.Entries.{place_in}
use Rattle.protocol.specs.Steps.{entry_of}
use Rattle.protocol.specs.Turns.{stray}

module _ {K : Type 0} (atleast : K → K → Bool) (t : Graph K) (sound : Sound t) (s : ℕ) (n : Note) (comes : stray atleast t s n ≡ false) where
  abbrev outside : Bool
  outside = not (ltb n.addressee (parcels t))

  abbrev elsewhere : Bool
  elsewhere = not (eqb (get_or t.stores n.addressee 0) s)

  abbrev unnamed : Bool
  unnamed = not (ltb (place_of t n.addressee n.sender) (row_end t n.addressee))

  abbrev odd : Bool
  odd = not (eqb n.kind 1 || eqb n.kind 2)

  pub comes_parcel : n.addressee < parcels t
  comes_parcel = ltb-true n.addressee (parcels t) (not-false (ltb n.addressee (parcels t)) (or_parts outside (elsewhere || (unnamed || odd)) comes).0)

  rest : (unnamed || odd) ≡ false
  rest = (or_parts elsewhere (unnamed || odd) (or_parts outside (elsewhere || (unnamed || odd)) comes).1).1

  pub comes_row : InRow t n.addressee (entry_of t n)
  comes_row = place_in t sound n.addressee n.sender comes_parcel (ltb-true (place_of t n.addressee n.sender) (row_end t n.addressee) (not-false (ltb (place_of t n.addressee n.sender) (row_end t n.addressee)) (or_parts unnamed odd rest).0))

  pub comes_kind : (n.kind ≡ 1) ⊎ (n.kind ≡ 2)
  comes_kind = ⊎_elim (λ e. inl (eqb-true n.kind 1 e)) (λ e. inr (eqb-true n.kind 2 e)) (or_cases (eqb n.kind 1) (eqb n.kind 2) (not-false (eqb n.kind 1 || eqb n.kind 2) (or_parts unnamed odd rest).1))

-- where there is a record for each parcel, the answer is whether it strays
pub strays_here : {K : Type 0} (t : Graph K) (rs : List Record) (u : ℕ) → length rs ≡ parcels t → u < parcels t → unwrap_or (strays_at t rs u) true ≡ astray t rs u
strays_here t rs u long below =
    ap (λ b. unwrap_or (cond b (Some (astray t rs u)) None) true) (and_from (eqb (length rs) (parcels t)) (ltb u (parcels t)) (eq-eqb (length rs) (parcels t) long) (lt-ltb u (parcels t) below))
