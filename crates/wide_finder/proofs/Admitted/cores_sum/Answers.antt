-- `wide_finder::Admitted::cores_sum` meets its contract. Assumes nothing.
use Rattle.ground.proofs.Kit.{◌∙◌}
use Rattle.std.proofs.Common.{rules, tests}
use Rattle.std.proofs.lemmas.Iterator.{YieldsList-from_slice, YieldsList-from_map}
use Rattle.std.proofs.lemmas.Iterator.Consumers.{sum_by_from_yields_List}
use Rattle.ground.proofs.Lists.{sum-list}
use Rattle.wide_task.specs.WideTask.{no_wide_task}
use Rattle.wide_task.specs.Cores.{cores_at}
use Rattle.wide_finder.proofs.Tables.{sum-done}
use Rattle.wide_finder.proofs.Admitted.cores_sum.Goals as goal

pub returns : goal.returns
returns c =
    let rows = c.args.self.now.rows.now in
    let sum =
    sum_by_from_yields_List (λ t. cores_at t c.args.k) rows c.map.result c.sum.result c.sum.ensures.ran
    (YieldsList-from_map _ (λ t. cores_at t c.args.k) (YieldsList-from_slice rows (cc)) c.map.ensures.closure (λ x r q k. search (rules, tests))) in
    sum-done rows _ _ _ (λ i l. c.args.self.now.good i no_wide_task l) (sum ∙ sum-list no_wide_task (λ t. cores_at t c.args.k) rows)
