-- The greedy pairing of a sheet against other lists of its pairs, by keys and in cents. Assumes nothing.
use Rattle.std.proofs.Common.{◌≡◌, ◌≤◌, Bool, true, false, not, ◌&&◌, ◌||◌, List, [], ◌∷◌, Some, None, Option, ap, ◌∙◌, ⊎_elim, arith}
use Rattle.std.specs.List.{AllZip}
use Rattle.std.proofs.lemmas.Bool.{leb-true, false≢true}
use Rattle.std.proofs.lemmas.Bool.Decides.{nat_tests}
use Rattle.ranking.specs.Law.{Lawful, lifted}
use Rattle.ranking.specs.Kinds.{cents_atleast}
use Rattle.ranking.specs.declared.Cents.{Cents}
use Rattle.ranking.proofs.Lifted.{lifted_lawful}
use Rattle.matching.specs.Pairs.{Pair}
use Rattle.matching.specs.Half.{Answers}
use Rattle.matching.proofs.Half.{two_to_a_pair, at_least_half}
use Rattle.sheet.specs.Graph.{Graph}
use Rattle.pairing.specs.Pairs.{sheet_pairs, pair_key}
use Rattle.pairing.specs.Above.{later, above, greedy_pairing}
use Rattle.pairing.specs.Theorems.{Matches, TwoForOne, cents_of, pair_cents, HalfTheCents}
use Rattle.pairing.proofs.Keys.{itself}
use Rattle.pairing.proofs.Orders.{above_ordered}

-- from the answers alone: pq says whether the key of p is at least as high as that of q
pub higher : (pq qp b : Bool) → (qp ≡ false → pq ≡ true) → (not qp || ((pq && qp) && b)) ≡ true → pq ≡ true
higher pq qp b total e = grind arith

-- what stands above has a key that is at least as high
pub above_key : {K : Type 0} (atleast : K → K → Bool) (laws : Lawful atleast) (t : Graph K) (p q : Pair) → above atleast t p q ≡ true → lifted atleast (pair_key t p) (pair_key t q) ≡ true
above_key atleast laws t p q =
    higher (lifted atleast (pair_key t p) (pair_key t q)) (lifted atleast (pair_key t q) (pair_key t p)) (later p q) ((lifted_lawful atleast laws).total (pair_key t q) (pair_key t p))

module _ {K : Type 0} (atleast : K → K → Bool) (laws : Lawful atleast) (t : Graph K) where
  by_key : (o n : Pair) → Answers (above atleast t) (greedy_pairing atleast t) o n → Matches atleast t o n
  by_key o n answer = record {
    chosen = answer.chosen;
    touches = answer.touches;
    no_lower = ⊎_elim
        (λ is. ap (λ x. lifted atleast (pair_key t n) (pair_key t x)) is ∙ itself (lifted atleast) (lifted_lawful atleast laws) (pair_key t n)) (above_key atleast laws t n o)
        answer.as_high;
  }

  each_by_key : (O names : List Pair) → AllZip (Answers (above atleast t) (greedy_pairing atleast t)) O names → AllZip (Matches atleast t) O names
  each_by_key [] [] each = each
  each_by_key [] (n ∷ names) each = each
  each_by_key (o ∷ O) [] each = each
  each_by_key (o ∷ O) (n ∷ names) each = (by_key o n each.0, each_by_key O names each.1)

pub two_for_one : {K : Type 0} (atleast : K → K → Bool) (laws : Lawful atleast) → TwoForOne atleast
two_for_one atleast laws t O pairing =
    let named = two_to_a_pair (above atleast t) (sheet_pairs t) O (above_ordered atleast laws t) pairing in
    record { names = named.names; each = each_by_key atleast laws t O named.names named.answer; twice = named.twice }

pub cents_lawful : Lawful cents_atleast
cents_lawful = record { total = λ a b e. grind (arith, nat_tests); trans = λ a b c e f. grind (arith, nat_tests) }

fewer_cents : (a b : Option Cents) → lifted cents_atleast a b ≡ true → cents_of b ≤ cents_of a
fewer_cents a None e = omega arith
fewer_cents None (Some b) e = absurd (false≢true e)
fewer_cents (Some a) (Some b) e = leb-true b.0 a.0 e

pub half_the_cents : HalfTheCents
half_the_cents t O pairing =
    at_least_half (above cents_atleast t) (pair_cents t) (sheet_pairs t) O (above_ordered cents_atleast cents_lawful t)
    (λ p q _ over. fewer_cents (pair_key t p) (pair_key t q) (above_key cents_atleast cents_lawful t p q over)) pairing
