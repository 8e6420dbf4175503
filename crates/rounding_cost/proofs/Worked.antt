-- The definitions give what is said of each worked table, by computation.
-- Assumes nothing.
use Rattle.ground.proofs.Kit.{refl}
use Rattle.ground.specs.Folds.{sum_to, max_to, list_to}
use Rattle.ground.specs.First.{first_from, first_below}
use Rattle.ground.specs.Least.{least_up_to}
use Rattle.kinds.specs.Task.{is_within, is_good}
use Rattle.share.specs.Share.{share_at, saturation_at, period_at, charge_at, load_at}
use Rattle.share.specs.Table.{full_compression, first_bad, priced_rows}
use Rattle.policy.specs.Passing.{passes, least_step}
use Rattle.admission.specs.Admission.{gate, admission}
use Rattle.outcome.specs.Plan.{found}
use Rattle.rounding_cost.specs.Exact.{exact_sum}
use Rattle.rounding_cost.specs.Worked.{worked_out, tables, lines, WorkedRight}

pub worked-right : WorkedRight
unfolding tables lines worked_out exact_sum found gate admission first_bad is_good is_within least_step least_up_to first_below first_from passes sum_to max_to
    list_to share_at saturation_at period_at charge_at load_at full_compression priced_rows
worked-right = (refl, refl)
