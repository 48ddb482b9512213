-- A line of numbers: how long it is, and its last number apart from the others. Assumes nothing.
use Rattle.std.proofs.Common.{◌≡◌, ℕ, ◌+◌, ◌<◌, ◌≤◌, List, [], ◌∷◌, ◌++◌, length, get_or, take, decimal, sum_by, sym, refl, ap, ◌∙◌, append_assoc, arith}
use Rattle.std.specs.List.{flat_map}
use Rattle.std.proofs.lemmas.List.{length-append, length_push, append-nil, take_more, flat_map_more}
use Rattle.std.proofs.lemmas.List.Sums.{sum_by-cons}
use Rattle.std.proofs.lemmas.List.Folds.{length-flat_map-take}
use Rattle.results.specs.Text.{field, ending, line}

pub length_field : (n after : ℕ) → length (field n after) ≡ length (decimal n) + 1
length_field n after = length_push (decimal n) after

pub line_length : (ns : List ℕ) → sum_by (λ n. length (decimal n) + 1) ns ≡ length (line ns)
line_length [] = refl
line_length (n ∷ ns) = omega (
  arith,
  sum_by-cons (λ m. length (decimal m) + 1) n ns,
  line_length ns,
  length-append (field n (ending ns)) (line ns),
  length_field n (ending ns),
)

-- the fields of these numbers, each ended by a comma
abbrev pub fields : List ℕ → List ℕ
fields = flat_map (λ n. field n 44)

ending_push : (ns : List ℕ) (last : ℕ) → ending (ns ++ last ∷ []) ≡ 44
ending_push [] last = refl
ending_push (n ∷ ns) last = refl

pub line_push : (ns : List ℕ) (last : ℕ) → line (ns ++ last ∷ []) ≡ fields ns ++ field last 10
line_push [] last = append-nil (field last 10)
line_push (n ∷ ns) last =
    ap (λ after. field n after ++ line (ns ++ last ∷ [])) (ending_push ns last)
    ∙ ap (λ rest. field n 44 ++ rest) (line_push ns last)
    ∙ sym (append_assoc (field n 44) (fields ns) (field last 10))

module _ (ns : List ℕ) (i : ℕ) (inside : i < length ns) where
  pub fields_more : fields (take (i + 1) ns) ≡ fields (take i ns) ++ field (get_or ns i 0) 44
  fields_more = ap fields (take_more ns i 0 inside) ∙ sym (flat_map_more (λ n. field n 44) [] (take i ns) (get_or ns i 0))

  pub fields_fit : length (fields (take i ns)) + length (field (get_or ns i 0) 44) ≤ length (fields ns)
  fields_fit = length-flat_map-take (λ n. field n 44) ns i 0 inside
