-- No text that an import takes is longer than the longest: `taken-most`.
-- Assumes nothing.
use Rattle.ground.proofs.Kit.{ℕ, ◌*◌, ◌≤◌, List, [], ◌∷◌, ◌≡◌, ap, arith, length, length-append, Ok}
use Rattle.kinds.specs.declared.Task.{Task}
use Rattle.numeral.proofs.Digits.{few-digits}
use Rattle.office.specs.Text.{line_of, text_of, Fits, AllFit, longest_line, longest_text}
use Rattle.office.specs.Reading.{read_text}
use Rattle.office.proofs.RoundTrip.{export-of-import}
use Rattle.office.proofs.Texts.{text-empty, text-cons}
use Rattle.office.proofs.Widths.{line-long}

-- no line is longer than the longest
pub line-most : (t : Task) → Fits t → length (line_of t) ≤ longest_line
line-most t f =
    let a = few-digits 9 t.c (omega (arith, f.c)) in
    let b = few-digits 9 t.tmin (omega (arith, f.tmin)) in
    let c = few-digits 9 t.tmax (omega (arith, f.tmax)) in
    let d = few-digits 9 t.e (omega (arith, f.e)) in
    omega (arith, line-long t)

pub text-most : (rows : List Task) → AllFit rows → length (text_of rows) ≤ longest_line * length rows
text-most [] f = omega (arith, ap length text-empty)
text-most (t ∷ rows) f =
    omega (arith, ap length (text-cons t rows), length-append (line_of t) (text_of rows), line-most t f.0, text-most rows f.1)

pub taken-most : (s : List ℕ) (rows : List Task) → read_text s ≡ Ok rows → length s ≤ longest_text
taken-most s rows e =
    let back = export-of-import s rows e in
    omega (arith, ap length back.text, text-most rows back.fit, back.few)
