-- Pairs of four parcels: what they share, and which stands above. Assumes nothing.
use Rattle.std.specs.Prelude.{ℕ, Bool, cond, ◌||◌, Some, None, Option, ◌==◌, nat_lt}
use Rattle.all_orders.specs.declared.small.Pair.{Pair}

-- the other parcel of the pair, at either of its parcels
abbrev pub partner : Pair → ℕ → Option ℕ
partner p u = cond (u == p.low) (Some p.high) (cond (u == p.high) (Some p.low) None)

-- one parcel is in both
abbrev pub touching : Pair → Pair → Bool
touching p q =
    (p.low == q.low || p.low == q.high) || (p.high == q.low || p.high == q.high)

-- by the key; of equal keys by the higher parcel, and with that in common by the lower one
abbrev pub standing_above : Pair → Pair → Bool
standing_above p q =
    cond
    (p.cents == q.cents)
    (cond (p.high == q.high) (nat_lt q.low p.low) (nat_lt q.high p.high))
    (nat_lt q.cents p.cents)
