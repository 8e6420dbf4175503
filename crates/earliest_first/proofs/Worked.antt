-- The worked tables, by computation.
-- Assumes nothing.
use Rattle.ground.proofs.Kit.{ℕ, zero, suc, ◌≤◌, ◌<◌, true, false, [], ◌∷◌, ◌≡◌, refl, ap, arith, get_or}
use lib.Dec.{lit<}
use Rattle.ground.specs.Folds.{sum_to, count_to, any_to, list_to}
use Rattle.ground.specs.Total.{total}
use Rattle.schedule.specs.Jobs.{deadline, Apart}
use Rattle.schedule.specs.Schedule.{Schedule, done, MeetsDeadlines}
use Rattle.turns.specs.Rule.{work_by, schedule_by}
use Rattle.earliest_first.specs.EarliestFirst.{EarliestFirst}
use Rattle.earliest_first.specs.ByDeadline.{by_deadline}
use Rattle.earliest_first.specs.Worked.{regular, picture, light, dhall}
use Rattle.earliest_first.proofs.Exists.{earliest-first-exists}

-- the first and the third task run together, and the second in between
pub light-runs : picture light (by_deadline 2 light) 6
    ≡ (true ∷ false ∷ true ∷ [])
    ∷ (false ∷ true ∷ false ∷ [])
    ∷ (true ∷ false ∷ true ∷ [])
    ∷ (false ∷ true ∷ false ∷ [])
    ∷ (true ∷ false ∷ true ∷ [])
    ∷ (false ∷ false ∷ false ∷ [])
    ∷ []
unfolding picture light regular schedule_by work_by total sum_to any_to list_to
light-runs = refl

-- the third task's first job waits for the two with earlier deadlines, and has run for two ticks of its three by its deadline
pub dhall-misses : done (by_deadline 2 dhall) 2 0 3 ≡ 2
unfolding done dhall regular schedule_by work_by total sum_to count_to
dhall-misses = refl

-- its jobs are released a period apart
dhall-apart : Apart dhall
unfolding dhall regular
dhall-apart = record { some = some; gap = λ i l j. omega arith }
  where
    some : (i : ℕ) → i < 3 → 1 ≤ get_or (2 ∷ 2 ∷ 3 ∷ []) i 0
    some zero l = omega arith
    some (suc zero) l = omega arith
    some (suc (suc zero)) l = omega arith
    some (suc (suc (suc i))) l = absurd (omega arith)

-- the third task, whose first job needs three ticks by tick 3
dhall-third : (2 < dhall.tasks) × (dhall.need 2 0 ≡ 3) × (deadline dhall 2 0 ≡ 3)
unfolding dhall regular
dhall-third = (lit< tt, refl, refl)

-- so running the earliest deadlines first on two processors does not meet every deadline of jobs whose loads fit the two
pub dhall-late : (runs : Schedule) × EarliestFirst 2 dhall runs × (MeetsDeadlines dhall runs → ⊥)
dhall-late =
    let work = done (by_deadline 2 dhall) 2 0 in (
      by_deadline 2 dhall,
      earliest-first-exists 2 dhall dhall-apart,
      λ met. omega (arith, met 2 dhall-third.0 0, dhall-third.1, ap work dhall-third.2, dhall-misses),
    )
