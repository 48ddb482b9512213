-- The kinds of notes, and the number of each. Assumes nothing.
use Rattle.std.specs.Prelude.{◌≡◌, ℕ, Result, MatchResult, ◌≢◌}
use Rattle.line.specs.declared.Kind.{Kind}
use Rattle.line.specs.declared.Kind.TheVariants.{Bid, Drop}
use Rattle.line.specs.declared.UnknownKind.{UnknownKind}

-- the number that stands for a kind
abbrev pub code : Kind → ℕ
code Bid = 1
code Drop = 2

-- the kind with this number, or none where no kind has it
abbrev pub Decodes : ℕ → Result Kind UnknownKind → Type 0
Decodes n r = MatchResult r (λ kind. code kind ≡ n) (λ e. (e.0 ≡ n) × (n ≢ 1) × (n ≢ 2))
