-- How long lines are, and the putting of them.
-- Assumes nothing.
use Rattle.ground.proofs.Kit.{ℕ, ◌+◌, List, [], ◌∷◌, ◌≡◌, sym, arith, length, set, length-append}
use Rattle.kinds.specs.declared.Task.{Task}
use Rattle.field.specs.Handover.{Put}
use Rattle.field.proofs.Stores.{put_then, put-sized}
use Rattle.numeral.specs.Decimal.{decimal}
use Rattle.numeral.proofs.Digits.{put_byte}
use Rattle.office.specs.Text.{comma, newline, number_then, line_of}

pub number-long : (v end : ℕ) → length (number_then v end) ≡ length (decimal v) + 1
unfolding number_then
number-long v end = length-append (decimal v) (end ∷ [])

pub line-sum : (t : Task) → length (line_of t)
    ≡ length (number_then t.c comma) + length (number_then t.tmin comma) + length (number_then t.tmax comma) + length (number_then t.e newline)
unfolding line_of
line-sum t = simp length-append (omega arith)

pub line-long : (t : Task) → length (line_of t) ≡ length (decimal t.c) + length (decimal t.tmin) + length (decimal t.tmax) + length (decimal t.e) + 4
unfolding line_of
line-long t = simp (length-append, number-long) (omega arith)

-- a number, and then the byte that ends it
pub puts-number : (old mid : List ℕ) (from next v end : ℕ) → Put old from (length (decimal v)) (decimal v) next mid
    → Put old from (length (number_then v end)) (number_then v end) (next + 1) (set mid next end)
unfolding number_then
puts-number old mid from next v end p =
    put-sized (sym (length-append (decimal v) (end ∷ []))) (put_then p (put_byte mid next end))

-- four numbers are a line
pub puts-line : (t : Task) (old₀ old₁ old₂ old₃ new : List ℕ) (from at-tmin at-tmax at-e next : ℕ)
    → Put old₀ from (length (number_then t.c comma)) (number_then t.c comma) at-tmin old₁
    → Put old₁ at-tmin (length (number_then t.tmin comma)) (number_then t.tmin comma) at-tmax old₂
    → Put old₂ at-tmax (length (number_then t.tmax comma)) (number_then t.tmax comma) at-e old₃
    → Put old₃ at-e (length (number_then t.e newline)) (number_then t.e newline) next new
    → Put old₀ from (length (line_of t)) (line_of t) next new
unfolding line_of
puts-line t old₀ old₁ old₂ old₃ new from at-tmin at-tmax at-e next p q r s =
    put-sized (simp length-append) (put_then p (put_then q (put_then r s)))
