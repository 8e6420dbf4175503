-- `wide_finder::Admitted::write_periods` meets its contract. Assumes nothing.
use Rattle.ground.proofs.Kit.{ℕ, ◌≡◌, arith, length}
use Rattle.ground.proofs.Buffer.{front-none, front-more}
use Rattle.wide_task.specs.WideTask.{at}
use Rattle.wide_task.specs.Cores.{share_at, period_at}
use Rattle.wide_finder.specs.Table.{periods_at}
use Rattle.wide_finder.proofs.Admitted.write_periods.Goals as goal

pub loop-i-init : goal.loop-i-init
loop-i-init c = front-none _ _

pub loop-i-preserved : goal.loop-i-preserved
unfolding share_at period_at
loop-i-preserved c =
    let entries : ℕ → ℕ = λ j. period_at (at c.args.self.now.rows.now j) c.args.k in
    front-more entries _ _ _ _ (omega arith) c.period_at.ensures.is c.loop-i.invariant

pub returns : goal.returns
unfolding periods_at
returns c = let all : c.loop-i.i ≡ length c.args.self.now.rows.now = omega arith in rw all at c.loop-i.invariant.is
