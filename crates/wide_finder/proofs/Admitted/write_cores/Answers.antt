-- `wide_finder::Admitted::write_cores` meets its contract. Assumes nothing.
use Rattle.ground.proofs.Kit.{ℕ, ◌≡◌, arith, length}
use Rattle.ground.proofs.Buffer.{front-none, front-more}
use Rattle.wide_task.specs.WideTask.{at}
use Rattle.wide_task.specs.Cores.{cores_at}
use Rattle.wide_finder.specs.Table.{core_counts_at}
use Rattle.wide_finder.proofs.Passing.{cores-within}
use Rattle.wide_finder.proofs.Admitted.write_cores.Goals as goal

pub loop-i-init : goal.loop-i-init
loop-i-init c = front-none _ _

pub overflow_cast-out : goal.overflow_cast-out
overflow_cast-out c =
    let rows = c.args.self.now.rows.now in
    omega (arith, c.cores_at.ensures.is, cores-within rows (length rows) c.args.k c.loop-i.i (omega arith))

pub loop-i-preserved : goal.loop-i-preserved
loop-i-preserved c =
    let entries : ℕ → ℕ = λ j. cores_at (at c.args.self.now.rows.now j) c.args.k in
    front-more entries _ _ _ _ (omega arith) c.cores_at.ensures.is c.loop-i.invariant

pub returns : goal.returns
unfolding core_counts_at
returns c = let all : c.loop-i.i ≡ length c.args.self.now.rows.now = omega arith in rw all at c.loop-i.invariant.is
