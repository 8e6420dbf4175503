-- The definitions give every outcome of the bench, by computation.
-- Assumes nothing.
use Rattle.ground.proofs.Kit.{refl}
use Rattle.ground.specs.Folds.{sum_to, max_to, count_to, any_to, list_to}
use Rattle.ground.specs.First.{first_from, first_below}
use Rattle.ground.specs.Least.{least_up_to}
use Rattle.kinds.specs.Task.{is_within, is_good}
use Rattle.share.specs.Share.{share_at, saturation_at, period_at, load_at}
use Rattle.share.specs.Table.{full_compression, first_bad, periods_at, priced_rows}
use Rattle.policy.specs.Sides.{margin_of}
use Rattle.policy.specs.Passing.{passes, least_step}
use Rattle.policy.specs.Looks.{is_new, distinct, distinct_below, looks_of}
use Rattle.admission.specs.Admission.{gate, admission}
use Rattle.outcome.specs.Plan.{processors_at, found, outcome}
use Rattle.quick_finder.specs.Looked.{looks}
use Rattle.cases.specs.Bench.{worked_out_of, bench, BenchRight}

pub bench-right : BenchRight
unfolding bench worked_out_of outcome found looks gate admission first_bad is_good is_within least_step least_up_to first_below first_from passes sum_to max_to
    count_to any_to list_to share_at saturation_at period_at load_at full_compression periods_at priced_rows processors_at margin_of is_new distinct distinct_below
    looks_of
bench-right = refl
