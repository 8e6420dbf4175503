-- The line of a refusal: how long it is, and that a refusal is written as its line.
-- Assumes nothing.
use Rattle.ground.proofs.Kit.{ℕ, ◌+◌, List, ◌≡◌, arith, length, length-append, ne_eqb}
use Rattle.kinds.specs.declared.Refusal.{Refusal}
use Rattle.kinds.specs.Refusal.{number_of, place_of}
use Rattle.kinds.specs.Answer.{refused}
use Rattle.kinds.proofs.Refusals.{refusal-numbered}
use Rattle.numeral.specs.Decimal.{decimal}
use Rattle.refusal_line.specs.Line.{refusal_line, or_line}

pub line-long : (number place : ℕ) → length (refusal_line number place) ≡ 13 + length (decimal number) + length (decimal place)
unfolding refusal_line
line-long number place = simp length-append (omega arith)

pub line_of : {A : Type 0} (nothing : A) (q : Refusal) (accepts : A → List ℕ) → or_line (refused nothing q) accepts ≡ refusal_line (number_of q) (place_of q)
line_of nothing q accepts = rw (ne_eqb (number_of q) 0 (λ z. omega (arith, refusal-numbered q)))
