-- Bytes put into a buffer, one part after another. Assumes nothing.
use Rattle.std.proofs.Common.{◌≡◌, ℕ, ◌+◌, ◌≤◌, List, [], ◌++◌, length, take, drop, sym, refl, ap, ◌∙◌, append_assoc, add-zero, zero-add, arith}
use Rattle.std.proofs.lemmas.List.{length-append, length-drop, length-take-le, take_at, drop_at, drop-drop, take-append-drop}
use Rattle.results.specs.declared.writer.Writer.{Writer}
use Rattle.results.specs.Text.{put_in}
use Rattle.results.specs.Writing.{RoomFor, Wrote}

-- nothing
pub put_none : (b : List ℕ) (at : ℕ) → put_in b at [] ≡ b
put_none b at = ap (λ p. take at b ++ drop p b) (add-zero at) ∙ take-append-drop at b

module _ (b : List ℕ) (at : ℕ) (x : List ℕ) (fits : at + length x ≤ length b) where
  front_length : length (take at b ++ x) ≡ at + length x
  front_length = length-append (take at b) x ∙ ap (λ n. n + length x) (length-take-le at b (omega arith))

  grouped : put_in b at x ≡ (take at b ++ x) ++ drop (at + length x) b
  grouped = sym (append_assoc (take at b) x (drop (at + length x) b))

  pub put_length : length (put_in b at x) ≡ length b
  put_length = ap length grouped ∙ length-append (take at b ++ x) (drop (at + length x) b) ∙ omega (arith, front_length, length-drop (at + length x) b)

  take_put : take (at + length x) (put_in b at x) ≡ take at b ++ x
  take_put = ap (take (at + length x)) grouped ∙ take_at (take at b ++ x) (drop (at + length x) b) (at + length x) front_length

  drop_put : (k : ℕ) → drop (at + length x + k) (put_in b at x) ≡ drop (at + length x + k) b
  drop_put k =
      sym (drop-drop k (at + length x) (put_in b at x))
      ∙ ap (drop k) (ap (drop (at + length x)) grouped ∙ drop_at (take at b ++ x) (drop (at + length x) b) (at + length x) front_length)
      ∙ drop-drop k (at + length x) b

  -- two parts in a row
  pub put_put : (y : List ℕ) → put_in (put_in b at x) (at + length x) y ≡ put_in b at (x ++ y)
  put_put y =
      let long : at + length x + length y ≡ at + length (x ++ y) = omega (arith, length-append x y) in
      ap (λ f. f ++ (y ++ drop (at + length x + length y) (put_in b at x))) take_put
      ∙ ap (λ r. (take at b ++ x) ++ (y ++ r)) (drop_put (length y) ∙ ap (λ n. drop n b) long)
      ∙ append_assoc (take at b) x (y ++ drop (at + length (x ++ y)) b)
      ∙ ap (λ r. take at b ++ r) (sym (append_assoc x y (drop (at + length (x ++ y)) b)))

-- all of it at the front
pub put_front : (old x written new : List ℕ) (count : ℕ) → new ≡ written → written ≡ put_in old 0 x → count ≡ length x → new ≡ x ++ drop count old
put_front old x written new count same is long = same ∙ is ∙ ap (λ p. x ++ drop p old) (zero-add (length x) ∙ sym long)

pub wrote_none : (w : Writer) → Wrote w w []
wrote_none w = record { same_reference = refl; count = omega arith; bytes = sym (put_none w.buffer.now w.count) }

module _ (a b : Writer) (x y : List ℕ) (wrote : Wrote a b x) (room : RoomFor a (x ++ y)) where
  fits : a.count + length x ≤ length a.buffer.now
  fits = omega (arith, room, length-append x y)

  -- what was to come after x still fits
  pub room_left : RoomFor b y
  room_left = omega (arith, room, length-append x y, wrote.count, ap length wrote.bytes, put_length a.buffer.now a.count x fits)

  -- one part more
  pub wrote_more : (c : Writer) → Wrote b c y → Wrote a c (x ++ y)
  wrote_more c more = record {
    same_reference = more.same_reference ∙ wrote.same_reference;
    count = omega (arith, more.count, wrote.count, length-append x y);
    bytes =
        more.bytes
        ∙ ap (λ m. put_in m b.count y) wrote.bytes
        ∙ ap (λ p. put_in (put_in a.buffer.now a.count x) p y) wrote.count
        ∙ put_put a.buffer.now a.count x fits y;
  }
