-- `clock::most_late` meets its contract. Assumes nothing.
-- The loop: the most late of the first i tasks is held, the lowest on a tie.
use Rattle.std.specs.Prelude.{slice_index}
use Rattle.clock.specs.Ticks.{late}
use Rattle.clock.proofs.Greatest.{Walked}
use Rattle.clock.proofs.most_late.Given as goal

abbrev pub invariant-loop-task : goal.invariant-loop-task
invariant-loop-task l = Walked (λ i. late l.present (slice_index l.next i)) l.task l.latest
