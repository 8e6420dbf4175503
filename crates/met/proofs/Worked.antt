-- Case E and the pooled plan, by computation.
-- Assumes nothing.
use Rattle.ground.proofs.Kit.{ℕ, true, false, List, [], ◌∷◌, ◌++◌, ◌≡◌, refl, ◌∙◌, ap, replicate}
use Rattle.ground.specs.Folds.{sum_to, max_to, any_to, list_to}
use Rattle.ground.specs.First.{first_from, first_below}
use Rattle.ground.specs.Least.{least_up_to}
use Rattle.ground.specs.Total.{total}
use Rattle.kinds.specs.Answer.{accepted}
use Rattle.kinds.specs.Task.{is_within, is_good}
use Rattle.share.specs.Share.{share_at, saturation_at, period_at, charge_at, load_at}
use Rattle.share.specs.Table.{full_compression, first_bad, periods_at, priced_rows}
use Rattle.policy.specs.Passing.{passes, least_step}
use Rattle.admission.specs.Admission.{gate, admission}
use Rattle.outcome.specs.Plan.{found, outcome}
use Rattle.schedule.specs.Schedule.{Schedule, MeetsDeadlines}
use Rattle.turns.specs.Rule.{work_by, schedule_by}
use Rattle.earliest_first.specs.ByDeadline.{by_deadline}
use Rattle.earliest_first.specs.EarliestFirst.{EarliestFirst}
use Rattle.earliest_first.specs.Worked.{regular, picture, dhall}
use Rattle.earliest_first.proofs.Worked.{dhall-late}
use Rattle.met.specs.Worked.{plan_of_case_e, jobs_of_case_e, pooled_plan, pooled_jobs}

-- "policy 2 gives step 100, periods 12"
pub case-e-plan : (plan_of_case_e.handed ≡ accepted 100) × (plan_of_case_e.periods ≡ 12 ∷ 12 ∷ 12 ∷ [])
unfolding plan_of_case_e outcome found gate admission first_bad is_good is_within least_step least_up_to first_below first_from passes sum_to max_to list_to
    share_at saturation_at period_at charge_at load_at full_compression priced_rows periods_at
case-e-plan = (refl, refl)

-- jobs of 6 ticks, three in every 12
twelve-runs : (let jobs = regular (12 ∷ 12 ∷ 12 ∷ []) (6 ∷ 6 ∷ 6 ∷ []) in picture jobs (by_deadline 2 jobs) 12)
    ≡ replicate 6 (true ∷ true ∷ false ∷ []) ++ replicate 6 (false ∷ false ∷ true ∷ [])
unfolding regular picture schedule_by work_by total sum_to any_to list_to
twelve-runs = refl

-- of twelve ticks the first two tasks take six side by side, and the third the other six
pub case-e-runs : picture jobs_of_case_e (by_deadline 2 jobs_of_case_e) 12 ≡ replicate 6 (true ∷ true ∷ false ∷ []) ++ replicate 6 (false ∷ false ∷ true ∷ [])
unfolding jobs_of_case_e
case-e-runs =
    ap (λ (periods : List ℕ). let jobs = regular periods (6 ∷ 6 ∷ 6 ∷ []) in picture jobs (by_deadline 2 jobs) 12) case-e-plan.1 ∙ twelve-runs

-- policy 1 accepts Dhall's table as it stands
pub pooled-accepted : (pooled_plan.handed ≡ accepted 0) × (pooled_plan.periods ≡ 2 ∷ 2 ∷ 3 ∷ [])
unfolding pooled_plan outcome found gate admission first_bad is_good is_within least_step least_up_to first_below first_from passes sum_to max_to list_to
    share_at saturation_at period_at charge_at load_at full_compression priced_rows periods_at
pooled-accepted = (refl, refl)

-- its jobs are Dhall's
jobs-are : pooled_jobs ≡ dhall
unfolding pooled_jobs dhall
jobs-are = ap (λ (periods : List ℕ). regular periods (1 ∷ 1 ∷ 3 ∷ [])) pooled-accepted.1

-- so global EDF does not carry policy 1: on two processors it misses a deadline of this plan
pub pooled-late : (runs : Schedule) × EarliestFirst 2 pooled_jobs runs × (MeetsDeadlines pooled_jobs runs → ⊥)
pooled-late = rw jobs-are dhall-late
