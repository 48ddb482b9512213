-- What is left of a text or of a line, and what is handed out of it. Assumes nothing.
use Rattle.std.specs.Prelude.{◌≡◌, ℕ, ◌+◌, ◌-◌, ◌^◌, min, ◌⊎◌, List, ◌∷◌, ◌++◌, length, drop, Some, None, Option, ◌≢◌}
use Rattle.std.specs.List.{AllByRecursion}
use Rattle.text.specs.declared.Part.{Part}
use Rattle.text.specs.declared.Lines.{Lines}

-- the byte b is not in bs
abbrev pub Free : ℕ → List ℕ → Type 0
Free b bs = AllByRecursion (λ x. x ≢ b) bs

-- the bytes of the text that no line was made of yet
abbrev pub left : Lines → List ℕ
left l = drop l.pos l.text.now

-- the part is the next line: its bytes reach to the first byte 10
pub record NextLine (was : Lines) (line : Part) (is : Lines) : Type 0 where
  pub bytes : left was ≡ line.bytes.now ++ 10 ∷ left is
  pub first : Free 10 line.bytes.now
  pub text : is.text.now ≡ was.text.now
  pub place : line.place ≡ was.pos
  pub number : line.line ≡ was.number + 1
  pub passed : is.pos ≡ was.pos + length line.bytes.now + 1
  pub counted : is.number ≡ was.number + 1

-- what is handed out of a text: its next line, or none where no byte 10 is left
abbrev pub LineTaken : Lines → Option Part → Lines → Type 0
LineTaken was (Some line) is = NextLine was line is
LineTaken was None is = Free 10 (left was) × (is ≡ was)

-- the part is parted at its first comma (byte 44) into a field and what follows; a place stays at the largest number
pub record Parted (part field after : Part) : Type 0 where
  pub bytes : part.bytes.now ≡ field.bytes.now ++ 44 ∷ after.bytes.now
  pub first : Free 44 field.bytes.now
  pub place : field.place ≡ part.place
  pub number : field.line ≡ part.line
  pub onward : after.place ≡ min (part.place + (length field.bytes.now + 1)) (2 ^ 64 - 1)
  pub same_line : after.line ≡ part.line

-- of what is left of a line, the field that is handed out, and what is left then: the last field has no comma after it
abbrev pub NextField : Option Part → Option Part → Option Part → Type 0
NextField None field rest = (field ≡ None) × (rest ≡ None)
NextField (Some part) field rest = (Free 44 part.bytes.now × (field ≡ Some part) × (rest ≡ None)) ⊎ ((front after : Part) × Parted part front after × (field ≡ Some front) × (rest ≡ Some after))

-- the bytes that fields are still made of
abbrev pub unread : Option Part → ℕ
unread None = 0
unread (Some part) = length part.bytes.now + 1
