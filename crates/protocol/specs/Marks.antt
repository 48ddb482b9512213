-- The marks of entries, and the notes that go along them. Assumes nothing.
use Rattle.std.specs.Prelude.{ℕ, zero, suc, ◌-◌, Bool, not, ◌&&◌, List, [], ◌∷◌, filter, ◌==◌, bit_and, bit_or, nat_le, nat_lt, slice_index}
use Rattle.line.specs.declared.Note.{Note}
use Rattle.sheet.specs.Graph.{Graph, row_start, row_end, other}

-- the entry at place p is open: bit 0 of its mark is clear
abbrev pub open' : List ℕ → ℕ → Bool
open' m p = bit_and (slice_index m p) 1 == 0

-- a bid came from there: bit 1 of its mark is set
abbrev pub bidden : List ℕ → ℕ → Bool
bidden m p = not (bit_and (slice_index m p) 2 == 0)

-- k places, from p on
abbrev pub places_from : ℕ → ℕ → List ℕ
places_from zero p = []
places_from (suc k) p = p ∷ places_from k (suc p)

-- the places of row u, in order
abbrev pub places : {K : Type 0} → Graph K → ℕ → List ℕ
places t u = places_from (row_end t u - row_start t u) (row_start t u)

-- the other open entries of row u
abbrev pub open_others : {K : Type 0} → Graph K → List ℕ → ℕ → ℕ → List ℕ
open_others t m u p = filter (λ q. open' m q && not (q == p)) (places t u)

-- a note of this kind along the entry at place p of row u
abbrev pub note_along : {K : Type 0} → Graph K → ℕ → ℕ → ℕ → Note
note_along t kind u p = record { sender = u; addressee = other t p; store = slice_index t.stores (other t p); kind = kind }

-- a bid along the entry at place p of row u
abbrev pub bid : {K : Type 0} → Graph K → ℕ → ℕ → Note
bid t u p = note_along t 1 u p

-- a drop along it
abbrev pub drop : {K : Type 0} → Graph K → ℕ → ℕ → Note
drop t u p = note_along t 2 u p

-- what a mark is once its entry is struck, and once a bid came from there; the other bits stay
abbrev pub strike : ℕ → ℕ
strike b = bit_or b 1

abbrev pub note_bid : ℕ → ℕ
note_bid b = bit_or b 2

-- place q is one of the open entries of row u other than p
abbrev pub let_go : {K : Type 0} → Graph K → List ℕ → ℕ → ℕ → ℕ → Bool
let_go t m u p q = (nat_le (row_start t u) q && nat_lt q (row_end t u)) && (open' m q && not (q == p))
