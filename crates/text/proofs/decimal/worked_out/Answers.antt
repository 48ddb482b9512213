use Rattle.std.proofs.Common.{ℕ, ◌+◌, ◌<◌, [], ◌∷◌, codes, refl, arith, rules}
use Rattle.text.specs.Numbers.{Numeral}
use Rattle.text.specs.Rows.{one, more, none, line}
use Rattle.text.proofs.decimal.worked_out.Goals as goal

-- a digit stands for itself
digit : (d : ℕ) → d < 10 → Numeral ((48 + d) ∷ []) d
digit d h = record { form = record { digits = ((omega arith, omega arith), tt); some = omega arith; plain = λ _. refl }; is = omega arith; small = omega arith }

ten : Numeral (codes "10") 10
ten = record { form = record { digits = search rules; some = omega arith; plain = search rules }; is = refl; small = omega arith }

pub returns : goal.returns
returns c =
    record {
      smallest = digit 0 (omega arith);
      largest = record { form = record { digits = search rules; some = omega arith; plain = search rules }; is = refl; small = omega arith };
      too_large = λ v n. omega arith;
      padded = λ v n. omega (arith, n.form.plain refl);
      empty = λ v n. omega arith;
      signed = λ v n. omega (arith, n.form.digits.0.0);
      row = more (codes "4") _ (digit 4 (omega arith)) refl (more (codes "6") _ (digit 6 (omega arith)) refl (one (digit 2 (omega arith))));
      text = line (codes "4,10") _ (more (codes "4") _ (digit 4 (omega arith)) refl (one ten)) refl (none refl);
    }
