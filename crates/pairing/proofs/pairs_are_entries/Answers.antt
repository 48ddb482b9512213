use Rattle.sheet.specs.Graph.{mirror}
use Rattle.pairing.proofs.Members.{pair_in, pair_from}
use Rattle.pairing.proofs.pairs_are_entries.Goals as goal

pub returns : goal.returns
returns g c t sound =
    (pair_in t sound, λ q m. let sides = pair_from t sound q m in (sides.rising, (sides.place, sides.within, sides.names), (mirror t q.lo sides.place, sides.mirrored, sides.names_back)))
