-- Ask 4's worked numbers over the definitions, the limits that are reached, and calls as one table under one claim.
-- Assumes nothing.
use Rattle.ground.proofs.Kit.{ℕ, true, List, [], ◌∷◌, ◌≡◌, refl, length}
use Rattle.ground.specs.First.{first_from, first_below}
use Rattle.ground.specs.Folds.{sum_to, max_to, list_to}
use Rattle.ground.specs.Least.{least_up_to}
use Rattle.admission.specs.Admission.{gate}
use Rattle.outcome.specs.Plan.{Outcome}
use Rattle.wide_task.specs.declared.WideTask.{WideTask}
use Rattle.wide_task.specs.Limits.{most_share, most_steps, most_cores}
use Rattle.wide_task.specs.WideTask.{wide_task, is_good}
use Rattle.wide_task.specs.Cores.{cores_of, largest_of, share_at, saturation_at, period_at, cores_at}
use Rattle.wide_finder.specs.Table.{full_compression, first_bad, passes_at, least_step, periods_at, core_counts_at}
use Rattle.wide_finder.specs.Wide.{admission, found, outcome}

-- Ask 4: "For C = 30, L = 5 the count is 5 at T = 10 and 2 at T = 20."
abbrev pub vision : WideTask
vision = wide_task 30 5 10 20 1000

pub record Counts : Type 0 where
  pub at-ten : cores_of 30 5 10 ≡ 5
  pub at-twenty : cores_of 30 5 20 ≡ 2
  pub first-period : period_at vision 0 ≡ 10
  pub first_count : cores_at vision 0 ≡ 5
  pub last-period : period_at vision 1500 ≡ 20
  pub last-count : cores_at vision 1500 ≡ 2

pub counts : Counts
unfolding share_at period_at cores_at
counts = record { at-ten = refl; at-twenty = refl; first-period = refl; first_count = refl; last-period = refl; last-count = refl }

-- no bound of the limits can be lower
abbrev pub widest : WideTask
widest = wide_task 1000000000 1 62500000 999999999 1

abbrev pub neediest : WideTask
neediest = wide_task 16000000000 999999999 1000000000 1000000000 0

pub record Reached : Type 0 where
  pub widest-good : is_good widest ≡ true
  pub most-share : largest_of widest ≡ most_share
  pub most-steps : saturation_at widest ≡ most_steps
  pub last_step : most_steps ≡ 14999999
  pub neediest-good : is_good neediest ≡ true
  pub most-cores : cores_at neediest 0 ≡ most_cores

pub reached : Reached
unfolding is_good share_at saturation_at period_at cores_at
reached = record { widest-good = refl; most-share = refl; most-steps = refl; last_step = refl; neediest-good = refl; most-cores = refl }

-- a call and what is wanted of it: both outputs are lent with 7 and 9 in every entry
pub record Case : Type 0 where
  pub m : ℕ
  pub rows : List WideTask
  pub number : ℕ
  pub place : ℕ
  pub step : ℕ
  pub periods : List ℕ
  pub cores : List ℕ

abbrev pub worked_out : Case → Outcome
worked_out c = outcome c.m c.rows (length c.rows) (7 ∷ 7 ∷ 7 ∷ []) (9 ∷ 9 ∷ 9 ∷ [])

abbrev pub wanted : Case → Outcome
wanted c =
    record { handed = record { number = c.number; place = c.place; value = c.step }; periods = c.periods; processors = c.cores }

abbrev pub Right : List Case → Type 0
Right [] = Unit {0}
Right (c ∷ cs) = (worked_out c ≡ wanted c) × Right cs

abbrev pub accepted : ℕ → List WideTask → ℕ → List ℕ → List ℕ → Case
accepted m rows step periods cores =
    record { m = m; rows = rows; number = 0; place = 0; step = step; periods = periods; cores = cores }

abbrev pub refused : ℕ → List WideTask → ℕ → ℕ → Case
refused m rows number place =
    record { m = m; rows = rows; number = number; place = place; step = 0; periods = 7 ∷ 7 ∷ 7 ∷ []; cores = 9 ∷ 9 ∷ 9 ∷ [] }

-- limits of a record: L = Tmin − 1 is good and L = Tmin is not, C = 16 × Tmin is and one more is not, Tmax = C − 1 is and Tmax = C is not
unfoldable pub bench : List Case
bench =
    accepted 1 [] 0 (7 ∷ 7 ∷ 7 ∷ []) (9 ∷ 9 ∷ 9 ∷ [])
    ∷ accepted 5 (vision ∷ []) 0 (10 ∷ 7 ∷ 7 ∷ []) (5 ∷ 9 ∷ 9 ∷ [])
    ∷ accepted 4 (vision ∷ []) 273 (12 ∷ 7 ∷ 7 ∷ []) (4 ∷ 9 ∷ 9 ∷ [])
    ∷ accepted 2 (vision ∷ []) 1236 (18 ∷ 7 ∷ 7 ∷ []) (2 ∷ 9 ∷ 9 ∷ [])
    ∷ accepted 4 (vision ∷ vision ∷ []) 1236 (18 ∷ 18 ∷ 7 ∷ []) (2 ∷ 2 ∷ 9 ∷ [])
    ∷ refused 1 (vision ∷ []) 7 0
    ∷ refused 0 (vision ∷ []) 2 0
    ∷ refused 17 (vision ∷ []) 2 0
    ∷ refused 16 (vision ∷ vision ∷ vision ∷ wide_task 0 0 0 0 0 ∷ []) 5 4
    ∷ refused 16 (vision ∷ wide_task 30 10 10 20 1000 ∷ []) 6 1
    ∷ refused 16 (wide_task 30 9 10 20 0 ∷ []) 7 0
    ∷ refused 16 (wide_task 160 1 10 20 0 ∷ []) 7 0
    ∷ refused 16 (wide_task 161 1 10 20 0 ∷ []) 6 0
    ∷ accepted 4 (wide_task 30 5 10 29 1000 ∷ []) 273 (12 ∷ 7 ∷ 7 ∷ []) (4 ∷ 9 ∷ 9 ∷ [])
    ∷ refused 16 (wide_task 30 5 10 30 1000 ∷ []) 6 0
    ∷ []

pub bench-right : Right bench
unfolding bench outcome found admission gate least_step least_up_to first_below first_from passes_at full_compression first_bad sum_to max_to
    list_to periods_at core_counts_at share_at saturation_at period_at cores_at is_good
bench-right = (refl, (refl, (refl, (refl, (refl, (refl, (refl, (refl, (refl, (refl, (refl, (refl, (refl, (refl, (refl, tt)))))))))))))))
