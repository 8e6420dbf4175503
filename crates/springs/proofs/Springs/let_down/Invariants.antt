-- `springs::Springs::let_down` meets its contract. The loop: the first i shares are let down, their sum is at hand, and nothing else has moved;
-- n − i falls. Assumes nothing.
use Rattle.ground.proofs.Kit.{ℕ, ◌-◌, get_or}
use Rattle.springs.specs.Spring.{let_down}
use Rattle.springs.specs.Springs.{spring_in}
use Rattle.springs.proofs.Columns.{Walked}
use Rattle.springs.proofs.Springs.let_down.Given as goal

abbrev pub invariant-loop-i : goal.invariant-loop-i
invariant-loop-i l =
    Walked (λ (j : ℕ). let_down (spring_in l.initial.self j) (get_or l.initial.self.loads j 0)) l.i l.initial.self l.self l.sum

abbrev pub decreases-loop-i : goal.decreases-loop-i
decreases-loop-i l = l.i-end - l.i
