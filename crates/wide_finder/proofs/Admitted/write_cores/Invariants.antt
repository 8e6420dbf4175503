-- `wide_finder::Admitted::write_cores` meets its contract. Assumes nothing.
-- The loop: the first i entries are the records', the rest is as it was.
use Rattle.ground.proofs.Kit.{ℕ}
use Rattle.ground.proofs.Buffer.{Front}
use Rattle.wide_task.specs.WideTask.{at}
use Rattle.wide_task.specs.Cores.{cores_at}
use Rattle.wide_finder.proofs.Admitted.write_cores.Given as goal

abbrev pub invariant-loop-i : goal.invariant-loop-i
invariant-loop-i l = Front (λ (j : ℕ). cores_at (at l.self.rows.now j) l.k) l.fn.out l.out l.i
