-- `office::read` meets its contract. Assumes nothing.
-- The loop: the lines left after those read give the whole reading; the rows that a table still has room for fall.
use Rattle.ground.proofs.Kit.{◌-◌}
use Rattle.kinds.specs.Limits.{most_tasks}
use Rattle.office.proofs.Lines.{Going}
use Rattle.office.proofs.read.Given as goal

abbrev pub invariant-loop-at : goal.invariant-loop-at
invariant-loop-at l = Going l.text l.rows l.at l.n

abbrev pub decreases-loop-at : goal.decreases-loop-at
decreases-loop-at l = most_tasks - l.n
