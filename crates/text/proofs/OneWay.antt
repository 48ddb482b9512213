-- A text writes its values in one way only. Assumes nothing.
use Rattle.std.proofs.Common.{◌≡◌, ℕ, ◌≤◌, List, [], ◌∷◌, ◌++◌, length, sym, refl, ap, ◌∙◌, subst, arith}
use Rattle.std.proofs.ByRecursion.{All-weaker, All-append}
use Rattle.text.specs.Numbers.{Digit, value, Numeral}
use Rattle.text.specs.Parts.{Free}
use Rattle.text.specs.Rows.{Values, one, more, Begins, none, line}
use Rattle.text.proofs.Cuts.{free_lacks, one_cut}

-- neither a comma nor a line's end is a digit
pub no_comma : {bs : List ℕ} {v : ℕ} → Numeral bs v → Free 44 bs
no_comma {bs} n = All-weaker Digit (λ x. x ≡ 44 → ⊥) (λ x d e. omega arith) bs n.form.digits

no_end : {bs : List ℕ} {v : ℕ} → Numeral bs v → Free 10 bs
no_end {bs} n = All-weaker Digit (λ x. x ≡ 10 → ⊥) (λ x d e. omega arith) bs n.form.digits

pub line_ends : {vs bs : List ℕ} → Values vs bs → Free 10 bs
line_ends (one n) = no_end n
line_ends (more f a n e r) = subst (Free 10) (sym e) (All-append (λ x. x ≡ 10 → ⊥) f (44 ∷ a) (no_end n) ((λ z. omega arith), line_ends r))

-- the values stand at the front of bs, a comma after each, and after follows
pub data Fronts : List ℕ → List ℕ → List ℕ → Type 0 where
  start : {bs after : List ℕ} → bs ≡ after → Fronts [] bs after
  passed : {v : ℕ} {vs bs after : List ℕ} (field rest : List ℕ) → Numeral field v → bs ≡ field ++ 44 ∷ rest → Fronts vs rest after → Fronts (v ∷ vs) bs after

pub fronts_push : {vs bs p f q : List ℕ} {v : ℕ} → Fronts vs bs p → Numeral f v → p ≡ f ++ 44 ∷ q → Fronts (vs ++ v ∷ []) bs q
fronts_push {f} {q} (start e) n s = passed f q n (e ∙ s) (start refl)
fronts_push (passed g r m e h) n s = passed g r m e (fronts_push h n s)

pub fronts_last : {vs bs p : List ℕ} {v : ℕ} → Fronts vs bs p → Numeral p v → Values (vs ++ v ∷ []) bs
fronts_last {v} (start e) n = one (subst (λ l. Numeral l v) (sym e) n)
fronts_last (passed g r m e h) n = more g r m e (fronts_last h n)

-- what else is written there begins with the same values, and the rest of it stands after them
pub fronts_strip : {vs ws bs p : List ℕ} → Fronts vs bs p → Values ws bs → (us : List ℕ) × (ws ≡ vs ++ us) × Values us p
fronts_strip {ws} (start e) w = (ws, refl, subst (Values ws) e w)
fronts_strip (passed g r m e h) (one n) = absurd (free_lacks 44 g r (subst (Free 44) e (no_comma n)))
fronts_strip (passed g r m e h) (more {vs = ws} f a n d w) =
    let same = one_cut 44 g r f a (no_comma m) (no_comma n) (sym e ∙ d) in
    let rest = fronts_strip h (subst (Values ws) (sym same.1) w) in
    let head = m.is ∙ ap value same.0 ∙ sym n.is in
    let tail = rest.1 in
    (rest.0, (cc), rest.2)

-- the first line of bs ends at its first byte 10
pub line_here : {vs bs l after rest : List ℕ} {rows : List (List ℕ)} → Free 10 l → bs ≡ l ++ 10 ∷ after → Begins (vs ∷ rows) bs rest → Values vs l × Begins rows after rest
line_here {vs} {rest} {rows} f e (line m a v d b) =
    let same = one_cut 10 m a _ _ (line_ends v) f (sym d ∙ e) in
    (subst (Values vs) same.0 v, subst (λ x. Begins rows x rest) same.1 b)

pub no_line : {vs bs rest : List ℕ} {rows : List (List ℕ)} → Free 10 bs → Begins (vs ∷ rows) bs rest → ⊥
no_line f (line l a v e b) = free_lacks 10 l a (subst (Free 10) e f)

pub begins_append : {a b c : List ℕ} {rows more : List (List ℕ)} → Begins rows a b → Begins more b c → Begins (rows ++ more) a c
begins_append {c} {more} (none e) d = subst (λ x. Begins more x c) (sym e) d
begins_append (line l r v e h) d = line l r v e (begins_append h d)

-- values_one_way: what a line writes is one row only
pub values_one_way : {vs ws bs : List ℕ} → Values vs bs → Values ws bs → vs ≡ ws
values_one_way (one n) (one m) = let e = n.is ∙ sym m.is in cc
values_one_way (one n) (more f a m e w) = absurd (free_lacks 44 f a (subst (Free 44) e (no_comma n)))
values_one_way (more f a n e v) (one m) = absurd (free_lacks 44 f a (subst (Free 44) e (no_comma m)))
values_one_way (more {vs = vs} f a n e v) (more g b m d w) =
    let same = one_cut 44 f a g b (no_comma n) (no_comma m) (sym e ∙ d) in
    let tail = values_one_way (subst (Values vs) same.1 v) w in
    let head = n.is ∙ ap value same.0 ∙ sym m.is in
    cc

-- of two runs of lines at one front, the longer one begins with the shorter one
pub begins_strip : {bs a c : List ℕ} {rows longer : List (List ℕ)} → Begins rows bs a → Begins longer bs c → length rows ≤ length longer → (rest : List (List ℕ)) × (longer ≡ rows ++ rest) × Begins rest a c
begins_strip {c} {longer} (none e) d h = (longer, refl, subst (λ x. Begins longer x c) e d)
begins_strip (line l r v e b) (none d) h = absurd (omega arith)
begins_strip {c} (line l r v e b) (line {rows = longer} m s w d k) h =
    let same = one_cut 10 l r m s (line_ends v) (line_ends w) (sym e ∙ d) in
    let head = values_one_way (subst (Values _) same.0 v) w in
    let rest = begins_strip b (subst (λ x. Begins longer x c) (sym same.1) k) (omega arith) in
    let tail = rest.1 in
    (rest.0, (cc), rest.2)

-- one line at the front is one row only, and ends in one place
pub one_row : {vs ws bs a c : List ℕ} → Begins (vs ∷ []) bs a → Begins (ws ∷ []) bs c → (ws ≡ vs) × (a ≡ c)
one_row (line l r v e (none z)) (line m s w d (none y)) =
    let same = one_cut 10 l r m s (line_ends v) (line_ends w) (sym e ∙ d) in
    (values_one_way w (subst (Values _) same.0 v), sym z ∙ same.1 ∙ y)
