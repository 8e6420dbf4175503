-- Document 01, "Numbers on a task", for a task that needs several cores, and the cores that it needs at a step.
-- Assumes nothing.
use Rattle.std.specs.Prelude.{ℕ, ◌-◌, ◌*◌, ◌≤◌}
use Rattle.ground.specs.Rounding.{ceil_div}
use Rattle.rule.specs.Rule.{part_of, share_of, saturation_of, period_of}
use Rattle.wide_task.specs.declared.WideTask.{WideTask}

abbrev pub largest_of : WideTask → ℕ
largest_of t = part_of t.c t.tmin

abbrev pub least_of : WideTask → ℕ
least_of t = part_of t.c t.tmax

unfoldable pub share_at : WideTask → ℕ → ℕ
share_at t k = share_of (largest_of t) (least_of t) t.e k

unfoldable pub saturation_at : WideTask → ℕ
saturation_at t = saturation_of (largest_of t) (least_of t) t.e

unfoldable pub period_at : WideTask → ℕ → ℕ
period_at t k = period_of t.c t.tmin (share_at t k)

-- source document 003, equation 2: (C − L) / (T − L) rounded up
abbrev pub cores_of : ℕ → ℕ → ℕ → ℕ
cores_of c l t = ceil_div (c - l) (t - l)

-- at the period T of the step
unfoldable pub cores_at : WideTask → ℕ → ℕ
cores_at t k = cores_of t.c t.l (period_at t k)

-- in words: the fewest cores that do the rest of the work in the rest of the period
pub record Fewest (t : WideTask) (k cores : ℕ) : Type 0 where
  pub enough : t.c - t.l ≤ cores * (period_at t k - t.l)
  pub only : (x : ℕ) → t.c - t.l ≤ x * (period_at t k - t.l) → cores ≤ x
