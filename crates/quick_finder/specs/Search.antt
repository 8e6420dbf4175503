-- Document 01, "Looks of the quick finder": one look.
-- Assumes nothing.
use Rattle.std.specs.Prelude.{ℕ, ◌+◌, ◌<◌, Bool, ◌≡◌, eqb, Option, Some}
use Rattle.ground.specs.Choice.{pick}
use Rattle.division.specs.Next.{next_to}
use Rattle.quick_finder.specs.declared.Search.{Search}

-- the step due: step 0 first, then the next saturation step above the last step looked at, where there is one
unfoldable pub due_after : (ℕ → ℕ) → ℕ → Search → Option ℕ
due_after saturation n before = pick (eqb before.looks 0) (Some 0) (next_to saturation before.step n)

-- "it tested the next step due and raised the count by one"; a step was due: after the first look one above the last step looked at
pub record OneLook (test : ℕ → Bool) (saturation : ℕ → ℕ) (n : ℕ) (before after : Search) : Type 0 where
  pub step : Some after.step ≡ due_after saturation n before
  pub due : 0 < before.looks → before.step < after.step
  pub from : after.from ≡ before.step
  pub tested : after.passed ≡ test after.step
  pub count : after.looks ≡ before.looks + 1
