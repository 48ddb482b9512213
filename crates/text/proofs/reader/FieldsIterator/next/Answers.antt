use Rattle.std.proofs.Common.{◌≡◌, ◌+◌, ◌-◌, ◌^◌, min, ◌∷◌, ◌++◌, length, take, sym, refl, ap, ◌∙◌, inr, arith}
use Rattle.std.proofs.lemmas.List.{take_rest, length-take-le}
use Rattle.text.proofs.Cuts.{parted_at}
use Rattle.text.proofs.reader.FieldsIterator.next.Goals as goal

pub returns-in-Some-clause-steps : goal.returns-in-Some-clause-steps
returns-in-Some-clause-steps c =
    let bytes = c.in_ok-part.part.bytes.now in
    let end = c.in-Some.end in
    let told = c.in-Some.ensures in
    let long : length (take end bytes) ≡ end = length-take-le end bytes (omega (arith, told.0)) in
    rw c.in_ok-part.was (inr (
      _,
      _,
      record {
        bytes = parted_at bytes end 44 told.0 told.1 ∙ ap (λ after. take end bytes ++ 44 ∷ after) (sym (take_rest bytes (end + 1)));
        first = told.2;
        place = refl;
        number = refl;
        onward = c.saturating_add.ensures ∙ ap (λ n. min (c.in_ok-part.part.place + (n + 1)) (2 ^ 64 - 1)) (sym long);
        same_line = refl;
      },
      refl,
      refl,
    ))
