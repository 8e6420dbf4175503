-- `quick_finder::search_columns` meets its contract. The loop: the last step looked at has failed, and the sum of its shares is at hand; the looks
-- that may still be made fall. Assumes nothing.
use Rattle.ground.proofs.Kit.{◌+◌, ◌-◌}
use Rattle.springs.specs.Springs.{spring_in}
use Rattle.springs.specs.Handover.{SumIs}
use Rattle.quick_finder.proofs.Loop.{Standing}
use Rattle.quick_finder.proofs.search_columns.Given as goal

abbrev pub invariant-loop-due : goal.invariant-loop-due
invariant-loop-due l =
    Standing l.w (spring_in l.springs) l.springs.n l.search × SumIs (spring_in l.springs) l.springs.n l.search.step l.search.sum

abbrev pub decreases-loop-due : goal.decreases-loop-due
decreases-loop-due l = l.springs.n + 1 - l.search.looks
