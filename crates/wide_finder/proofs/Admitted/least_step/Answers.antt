-- `wide_finder::Admitted::least_step` meets its contract. Assumes nothing.
use Rattle.ground.proofs.Kit.{length}
use Rattle.std.proofs.Common.{rules}
use Rattle.wide_task.specs.WideTask.{no_wide_task}
use Rattle.wide_finder.specs.Table.{passes_at, least_step}
use Rattle.wide_finder.proofs.Passing.{passes-rising}
use Rattle.wide_finder.proofs.Admitted.least_step.Goals as goal

pub returns : goal.returns
unfolding least_step
returns c =
    let rows = c.args.self.now.rows.now in
    let rising = passes-rising c.args.m rows (length rows) (λ i l. c.args.self.now.good i no_wide_task l) in
    rw (← c.full_compression.ensures.is)
    (c.least_passing.ensures (passes_at c.args.m rows (length rows)) rising (λ k passed l called. search rules))
