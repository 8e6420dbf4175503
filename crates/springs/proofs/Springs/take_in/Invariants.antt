-- `springs::Springs::take_in` meets its contract. The loop: the first i records are good, their springs are taken in, and the loads are
-- as they were.
-- Assumes nothing.
use Rattle.ground.proofs.Kit.{ℕ, ◌<◌, false, not, ◌≡◌}
use Rattle.kinds.specs.Task.{at, is_good}
use Rattle.share.specs.Table.{priced_rows}
use Rattle.springs.specs.Handover.{Sprung}
use Rattle.springs.proofs.Springs.take_in.Given as goal

abbrev pub invariant-loop-i : goal.invariant-loop-i
invariant-loop-i l =
    (l.self.notch ≡ l.notch)
    × ((j : ℕ) → j < l.i → not (is_good l.swap l.notch (at l.fn.table.rows j)) ≡ false)
    × Sprung (priced_rows l.swap l.fn.table.rows l.fn.table.n) l.i l.self
    × (l.self.loads ≡ l.initial.self.loads)
