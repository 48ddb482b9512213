-- What a test of a state and a chosen parcel tells. Assumes nothing.
use Rattle.std.proofs.Common.{◌≡◌, ℕ, true, false, ◌&&◌, eqb, sym}
use Rattle.std.proofs.lemmas.Bool.{and_parts, and_from, eqb-true, eq-eqb, both_ways}

pub both_hold : (a b c d : ℕ) → true ≡ (eqb a b && eqb c d) → (a ≡ b) × (c ≡ d)
both_hold a b c d e = let parts = and_parts (eqb a b) (eqb c d) (sym e) in (eqb-true a b parts.0, eqb-true c d parts.1)

pub not_both : (a b c d : ℕ) → false ≡ (eqb a b && eqb c d) → a ≡ b → c ≡ d → ⊥
not_both a b c d e f g = both_ways (eqb a b && eqb c d) (sym e) (and_from (eqb a b) (eqb c d) (eq-eqb a b f) (eq-eqb c d g))
