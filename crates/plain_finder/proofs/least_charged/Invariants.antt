-- `plain_finder::least_charged` meets its contract. The loop: no step before this one passes, nothing but loads has moved, and
-- none of them to above S. Assumes nothing.
use Rattle.ground.proofs.Kit.{ℕ, ◌<◌, false, ◌≡◌}
use Rattle.springs.specs.Spring.{charges_on}
use Rattle.springs.specs.Springs.{spring_in}
use Rattle.springs.specs.Handover.{Beside, StaysLow}
use Rattle.policy.specs.Passing.{passes_at}
use Rattle.plain_finder.proofs.least_charged.Given as goal

abbrev pub invariant-loop-step : goal.invariant-loop-step
invariant-loop-step l =
    let s = l.initial.springs in
    Beside s l.springs × ((j : ℕ) → j < l.step → passes_at l.test.policy l.test.m (charges_on s.notch (spring_in s)) s.n j ≡ false)
    × StaysLow s l.springs
