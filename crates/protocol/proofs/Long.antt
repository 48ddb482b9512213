-- No step changes how many marks there are. Assumes nothing.
use Rattle.std.proofs.Common.{◌≡◌, ℕ, Bool, List, length, refl, ◌∙◌}
use Rattle.std.proofs.lemmas.List.{length-set}
use Rattle.line.specs.declared.Note.{Note}
use Rattle.records.specs.declared.record.Record.{Record}
use Rattle.sheet.specs.Graph.{Graph}
use Rattle.protocol.specs.Steps.{Chooses, alone, waits, pairs, Receives, hears, agrees, loses, turns}

module _ {K : Type 0} {atleast : K → K → Bool} {t : Graph K} where
  pub chooses_long : {u : ℕ} {m : List ℕ} {r : Record} {m' : List ℕ} {out : List Note} → Chooses atleast t u m r m' out → length m' ≡ length m
  chooses_long (alone _) = refl
  chooses_long (waits _ _) = refl
  chooses_long (pairs _ _ go) = go.long

  pub receives_long : {n : Note} {r r' : Record} {m m' : List ℕ} {out : List Note} → Receives atleast t n r m r' m' out → length m' ≡ length m
  receives_long {n} {r} {r'} {m} (hears _ _) = length-set m _ _
  receives_long {n} {r} {r'} {m} (agrees _ _ go) = go.long ∙ length-set m _ _
  receives_long {n} {r} {r'} {m} (loses _ _) = length-set m _ _
  receives_long {n} {r} {r'} {m} (turns _ _ ch) = chooses_long ch ∙ length-set m _ _
