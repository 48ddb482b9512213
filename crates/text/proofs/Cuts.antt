-- Lists that are parted at the first such byte. Assumes nothing.
use Rattle.std.proofs.Common.{◌≡◌, ℕ, ◌+◌, ◌<◌, List, [], ◌∷◌, ◌++◌, length, get_or, take, drop, sym, refl, ap, ◌∙◌, take-append-drop}
use Rattle.std.proofs.lemmas.List.{drop_more}
use Rattle.text.specs.Parts.{Free}

pub parted_at : (bs : List ℕ) (i b : ℕ) → i < length bs → get_or bs i 0 ≡ b → bs ≡ take i bs ++ b ∷ drop (i + 1) bs
parted_at bs i b h e = sym (take-append-drop i bs) ∙ ap (λ l. take i bs ++ l) (drop_more bs i 0 h ∙ ap (λ x. x ∷ drop (i + 1) bs) e)

pub free_lacks : (b : ℕ) (l r : List ℕ) → Free b (l ++ b ∷ r) → ⊥
free_lacks b [] r f = f.0 refl
free_lacks b (x ∷ l) r f = free_lacks b l r f.1

-- a list is parted in one way only at its first such byte
pub one_cut : (b : ℕ) (l r m s : List ℕ) → Free b l → Free b m → l ++ b ∷ r ≡ m ++ b ∷ s → (l ≡ m) × (r ≡ s)
one_cut b [] r [] s f g e = (refl, cc)
one_cut b [] r (y ∷ m) s f g e = absurd (g.0 (cc))
one_cut b (x ∷ l) r [] s f g e = absurd (f.0 (cc))
one_cut b (x ∷ l) r (y ∷ m) s f g e =
    let tails : l ++ b ∷ r ≡ m ++ b ∷ s = cc in
    let heads : x ≡ y = cc in
    let rest = one_cut b l r m s f.1 g.1 tails in
    let front = rest.0 in
    (cc, rest.1)
