-- `numeral::run_of` meets its contract. Assumes nothing.
-- The loop: all bytes so far are digits, and their value is at hand, held down.
use Rattle.numeral.proofs.Scan.{Going}
use Rattle.numeral.proofs.run_of.Given as goal

abbrev pub invariant-loop-i : goal.invariant-loop-i
invariant-loop-i l = Going l.s l.i l.value
