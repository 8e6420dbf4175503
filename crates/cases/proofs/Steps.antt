-- The definitions give what document 01 says of the steps of cases J and K, by computation.
-- Assumes nothing.
use Rattle.ground.proofs.Kit.{refl}
use Rattle.ground.specs.Folds.{sum_to, max_to, list_to}
use Rattle.ground.specs.First.{first_from, first_below}
use Rattle.ground.specs.Least.{least_up_to}
use Rattle.share.specs.Share.{share_at, saturation_at, period_at}
use Rattle.share.specs.Table.{full_compression, periods_at}
use Rattle.fit.specs.Fit.{lowest_room, loads_after, place_at, stuck_at, fits}
use Rattle.policy.specs.Passing.{passes, least_step}
use Rattle.outcome.specs.Plan.{processors_at}
use Rattle.cases.specs.Steps.{passing, StepsOfJ, StepsOfK}

pub steps-of-j : StepsOfJ
unfolding passing passes sum_to max_to list_to share_at saturation_at period_at full_compression periods_at
steps-of-j = record { full = refl; beside = refl; periods = refl }

pub steps-of-k : StepsOfK
unfolding passing least_step least_up_to first_below first_from passes fits stuck_at place_at loads_after lowest_room max_to list_to share_at saturation_at
    period_at full_compression periods_at processors_at
steps-of-k = record { full = refl; all = refl; answer = refl; periods = refl; processors = refl }
