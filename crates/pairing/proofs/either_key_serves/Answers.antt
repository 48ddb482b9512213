use Rattle.std.proofs.lemmas.Bool.{and_from}
use Rattle.pairing.proofs.Keys.{key_level}
use Rattle.pairing.proofs.either_key_serves.Goals as goal

pub returns : goal.returns
returns g c t sound same u p within =
    let level = key_level g.K.Ranking.atleast g.met.K.Ranking.lawful t sound same u p within in
    and_from _ _ level.one level.two
