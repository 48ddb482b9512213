-- What a line answers to a step of the script. Assumes nothing.
use Rattle.std.specs.Prelude.{ℕ, List, Option}
use Rattle.std.specs.Option.{option_map}
use Rattle.line.specs.declared.Note.{Note}
use Rattle.line.specs.Calls.{put_answer}
use Rattle.lines_demo.specs.declared.Answer.{Answer}
use Rattle.lines_demo.specs.declared.Answer.TheVariants.{Kept, Handed}
use Rattle.lines_demo.specs.declared.Step.{Step}
use Rattle.lines_demo.specs.declared.Step.TheVariants.{Put, Take}

-- by what waits, the capacity, and what each store would be handed
abbrev pub played : Step → List Note → ℕ → (ℕ → Option Note) → Answer
played (Put note) notes capacity chosen = Kept (put_answer note notes capacity)
played (Take store) notes capacity chosen = Handed (option_map (λ note. note.sender) (chosen store))
