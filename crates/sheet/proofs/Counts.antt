-- The counts of a front: each stands in the whole as soon as its two bytes are there.
-- Assumes nothing.
use Rattle.ground.proofs.Kit.{ℕ, ◌≤◌, List, ◌++◌, ◌≡◌, ◌∙◌, ap, arith, length}
use Rattle.field.specs.Number.{u16_at}
use Rattle.field.proofs.Numbers.{number-front}
use Rattle.sheet.specs.Sections.{settings_place, numbers_place, tasks_place, records_place, results_place, granted_place}
use Rattle.sheet.specs.Reading.{settings_count, task_count, result_count}

module _ (s t : List ℕ) where
  pub same-settings : numbers_place ≤ length s → settings_count (s ++ t) ≡ settings_count s
  unfolding settings_count
  same-settings a = number-front s t 2 settings_place a

  pub same-tasks : records_place (settings_count s) ≤ length s → task_count (s ++ t) ≡ task_count s
  unfolding task_count
  same-tasks a =
      ap (λ (c : ℕ). u16_at (s ++ t) (tasks_place c)) (same-settings (omega arith)) ∙ number-front s t 2 (tasks_place (settings_count s)) a

  pub same-results : granted_place (settings_count s) (task_count s) ≤ length s → result_count (s ++ t) ≡ result_count s
  unfolding result_count
  same-results a =
      ap (λ (c : ℕ). u16_at (s ++ t) (results_place c (task_count (s ++ t)))) (same-settings (omega arith))
      ∙ (ap (λ (n : ℕ). u16_at (s ++ t) (results_place (settings_count s) n)) (same-tasks (omega arith))
      ∙ number-front s t 2 (results_place (settings_count s) (task_count s)) a)
