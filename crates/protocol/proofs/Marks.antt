-- The bits of a mark, and the places of a row. Assumes nothing.
use Rattle.std.proofs.Common.{◌≡◌, ℕ, zero, suc, ◌+◌, ◌-◌, ◌*◌, ◌/◌, ◌%◌, ◌<◌, ◌≤◌, min, max, true, false, not, ◌&&◌, eqb, ltb, leb, List, get_or, ap, ◌∙◌, inl, inr, ⊎_elim, arith}
use lib.Bits.{bit_and, bit_or, and_step, or_step, or_zero_r, and_mask}
use Rattle.std.proofs.lemmas.Bool.{and_parts, and_from, not-true, not_from_false, eqb-false, ne_eqb, ltb-true, lt-ltb, leb-true, le-leb, cases_eq}
use Rattle.matching.specs.Pairs.{◌∈◌}
use Rattle.matching.proofs.Members.{kept_was, kept_stays}
use Rattle.sheet.specs.Graph.{Graph, InRow, parcels, row_start, row_end}
use Rattle.protocol.specs.Marks.{open', bidden, strike, note_bid, places_from, places, open_others, let_go}

and_one : (b : ℕ) → bit_and b 1 ≡ b % 2
and_one b = and_mask b 1

and_two : (b : ℕ) → bit_and b 2 ≡ b / 2 % 2 * 2
and_two b =
    let low : min (b % 2) 0 ≡ 0 = omega arith in
    let s : bit_and b 2 ≡ bit_and (b / 2) 1 * 2 + min (b % 2) 0 = and_step b 2 in
    let h = and_one (b / 2) in
    omega (arith, s, h, low)

or_one : (b : ℕ) → bit_or b 1 ≡ b / 2 * 2 + 1
or_one b =
    let s : bit_or b 1 ≡ bit_or (b / 2) 0 * 2 + max (b % 2) 1 = or_step b 1 in
    let h = or_zero_r (b / 2) in
    let m : max (b % 2) 1 ≡ 1 = omega arith in
    omega (arith, s, h, m)

or_two : (b : ℕ) → bit_or b 2 ≡ (b / 2 / 2 * 2 + 1) * 2 + b % 2
or_two b =
    let s : bit_or b 2 ≡ bit_or (b / 2) 1 * 2 + max (b % 2) 0 = or_step b 2 in
    let h = or_one (b / 2) in
    let m : max (b % 2) 0 ≡ b % 2 = omega arith in
    omega (arith, s, h, m)

strike_open : (b : ℕ) → bit_and (strike b) 1 ≡ 1
strike_open b = let a = and_one (bit_or b 1) in let o = or_one b in omega (arith, a, o)

strike_bid : (b : ℕ) → bit_and (strike b) 2 ≡ bit_and b 2
strike_bid b = let a = and_two (bit_or b 1) in let o = or_one b in let c = and_two b in omega (arith, a, o, c)

bid_open : (b : ℕ) → bit_and (note_bid b) 1 ≡ bit_and b 1
bid_open b = let a = and_one (bit_or b 2) in let o = or_two b in let c = and_one b in omega (arith, a, o, c)

bid_set : (b : ℕ) → bit_and (note_bid b) 2 ≡ 2
bid_set b = let a = and_two (bit_or b 2) in let o = or_two b in omega (arith, a, o)

-- a struck mark is closed, and keeps what it says of bids; a mark with a bid keeps whether it is open
pub struck_closed : (m : List ℕ) (p b : ℕ) → get_or m p 0 ≡ strike b → open' m p ≡ false
struck_closed m p b e = ne_eqb (bit_and (get_or m p 0) 1) 0 (λ z. let f = ap (λ x. bit_and x 1) e in omega (arith, f, strike_open b))

pub struck_bidden : (m m' : List ℕ) (p q : ℕ) → get_or m' p 0 ≡ strike (get_or m q 0) → bidden m' p ≡ bidden m q
struck_bidden m m' p q e = ap (λ x. not (eqb x 0)) (ap (λ x. bit_and x 2) e ∙ strike_bid (get_or m q 0))

pub heard_open : (m m' : List ℕ) (p q : ℕ) → get_or m' p 0 ≡ note_bid (get_or m q 0) → open' m' p ≡ open' m q
heard_open m m' p q e = ap (λ x. eqb x 0) (ap (λ x. bit_and x 1) e ∙ bid_open (get_or m q 0))

pub heard_bidden : (m : List ℕ) (p b : ℕ) → get_or m p 0 ≡ note_bid b → bidden m p ≡ true
heard_bidden m p b e = ap (λ x. not (eqb x 0)) (ap (λ x. bit_and x 2) e ∙ bid_set b)

pub same_open : (m m' : List ℕ) (p q : ℕ) → get_or m' p 0 ≡ get_or m q 0 → open' m' p ≡ open' m q
same_open m m' p q e = ap (λ x. eqb (bit_and x 1) 0) e

pub same_bidden : (m m' : List ℕ) (p q : ℕ) → get_or m' p 0 ≡ get_or m q 0 → bidden m' p ≡ bidden m q
same_bidden m m' p q e = ap (λ x. not (eqb (bit_and x 2) 0)) e

-- the places from p on, k of them
from_in : (k p q : ℕ) → p ≤ q → q < p + k → q ∈ places_from k p
from_in zero p q low high = absurd (omega arith)
from_in (suc k) p q low high = ⊎_elim (λ e. inl e) (λ not. inr (from_in k (suc p) q (omega arith) (omega arith))) (cases_eq q p)

in_from : (k p q : ℕ) → q ∈ places_from k p → (p ≤ q) × (q < p + k)
in_from zero p q m = absurd m
in_from (suc k) p q (inl e) = (omega arith, omega arith)
in_from (suc k) p q (inr m) = let r = in_from k (suc p) q m in (omega (arith, r.0), omega (arith, r.1))

module _ {K : Type 0} (t : Graph K) (u : ℕ) (parcel : u < parcels t) where
  pub place_in : (q : ℕ) → InRow t u q → q ∈ places t u
  place_in q e = from_in (row_end t u - row_start t u) (row_start t u) q e.from (omega (arith, e.from, e.to))

  pub in_places : (q : ℕ) → q ∈ places t u → InRow t u q
  in_places q m = let r = in_from (row_end t u - row_start t u) (row_start t u) q m in record { parcel = parcel; from = r.0; to = omega (arith, r.0, r.1) }

  module _ (m : List ℕ) (p : ℕ) where
    -- what is let go, as facts
    pub gone_facts : (q : ℕ) → let_go t m u p q ≡ true → InRow t u q × (open' m q ≡ true) × (q ≡ p → ⊥)
    gone_facts q g =
        let a = and_parts (leb (row_start t u) q && ltb q (row_end t u)) (open' m q && not (eqb q p)) g in
        let b = and_parts (leb (row_start t u) q) (ltb q (row_end t u)) a.0 in
        let d = and_parts (open' m q) (not (eqb q p)) a.1 in
        (record { parcel = parcel; from = leb-true (row_start t u) q b.0; to = ltb-true q (row_end t u) b.1 }, d.0, eqb-false q p (not-true (eqb q p) d.1))

    pub facts_gone : (q : ℕ) → InRow t u q → open' m q ≡ true → (q ≡ p → ⊥) → let_go t m u p q ≡ true
    facts_gone q e o n =
        and_from (leb (row_start t u) q && ltb q (row_end t u)) (open' m q && not (eqb q p))
        (and_from (leb (row_start t u) q) (ltb q (row_end t u)) (le-leb (row_start t u) q e.from) (lt-ltb q (row_end t u) e.to))
        (and_from (open' m q) (not (eqb q p)) o (not_from_false (eqb q p) (ne_eqb q p n)))

    -- the other open entries are those
    pub others_gone : (q : ℕ) → q ∈ open_others t m u p → let_go t m u p q ≡ true
    others_gone q i =
        let k = kept_was (λ x. open' m x && not (eqb x p)) (places t u) q i in
        let d = and_parts (open' m q) (not (eqb q p)) k.1 in
        facts_gone q (in_places q k.0) d.0 (eqb-false q p (not-true (eqb q p) d.1))

    pub gone_others : (q : ℕ) → let_go t m u p q ≡ true → q ∈ open_others t m u p
    gone_others q g =
        let f = gone_facts q g in
        kept_stays (λ x. open' m x && not (eqb x p)) (places t u) q (and_from (open' m q) (not (eqb q p)) f.1 (not_from_false (eqb q p) (ne_eqb q p f.2))) (place_in q f.0)
