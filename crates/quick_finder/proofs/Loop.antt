-- The loop of the quick finder, over the state that it carries.
-- Assumes nothing.
use Rattle.ground.proofs.Kit.{ℕ, ◌+◌, ◌-◌, ◌≤◌, ◌<◌, true, false, ◌≡◌, sym, ◌∙◌, arith, eq-eqb, ne_eqb, Option, Some, None}
use Rattle.kinds.specs.Limits.{most_tasks}
use Rattle.policy.specs.declared.Weights.{Weights}
use Rattle.policy.specs.Weighed.{weighed_at}
use Rattle.springs.specs.declared.Spring.{Spring}
use Rattle.springs.specs.Spring.{saturations}
use Rattle.division.specs.Next.{Next, next_to}
use Rattle.division.specs.Division.{divided}
use Rattle.division.proofs.Nexts.{next-is, next-none}
use Rattle.quick_finder.specs.declared.Search.{Search}
use Rattle.quick_finder.specs.Search.{due_after, OneLook}
use Rattle.quick_finder.specs.Handover.{SearchEnds}
use Rattle.quick_finder.proofs.Looking.{Failed, ends-at-zero, failed-at-zero, ends_nowhere, failed-next, ends-divided, looks-left}

pub due-first : (s : ℕ → ℕ) (n : ℕ) (before : Search) → before.looks ≡ 0 → due_after s n before ≡ Some 0
unfolding due_after
due-first s n before e = rw (eq-eqb before.looks 0 e)

due-later : (s : ℕ → ℕ) (n : ℕ) (before : Search) → 0 < before.looks → due_after s n before ≡ next_to s before.step n
unfolding due_after
due-later s n before h = rw (ne_eqb before.looks 0 (λ e. omega arith))

one-step : (a b : ℕ) → ◌≡◌ {A = Option ℕ} (Some a) (Some b) → a ≡ b
one-step a b e = cc

-- the search stands at a step that failed
abbrev pub Standing : Weights → (ℕ → Spring) → ℕ → Search → Type 0
Standing w springs n s = Failed (weighed_at w springs n) (saturations springs) n s.step s.looks

module _ (w : Weights) (springs : ℕ → Spring) (n : ℕ) where
  module _ (start after : Search) (z : start.looks ≡ 0) (o : OneLook (weighed_at w springs n) (saturations springs) n start after) where
    -- the first look was at step 0
    at_zero : after.step ≡ 0
    at_zero = one-step _ _ (o.step ∙ due-first (saturations springs) n start z)

    once : after.looks ≡ 1
    once = omega (arith, o.count)

    pub first_passes : after.passed ≡ true → SearchEnds (weighed_at w springs n) (saturations springs) n (record { step = Some 0; looks = after.looks })
    first_passes t = ends-at-zero w springs n after.looks once (sym (rw at_zero at o.tested) ∙ t)

    pub first-fails : after.passed ≡ false → Standing w springs n after
    first-fails f = rw at_zero (failed-at-zero w springs n after.looks once (sym (rw at_zero at o.tested) ∙ f))

  -- no further look is due
  pub none-due : (s : Search) → Standing w springs n s → next_to (saturations springs) s.step n ≡ None
      → SearchEnds (weighed_at w springs n) (saturations springs) n (record { step = None; looks = s.looks })
  none-due s k e = ends_nowhere w springs n s.step s.looks k (next-none (saturations springs) s.step n e)

  module _ (before : Search) (due : ℕ) (k : Standing w springs n before) (e : next_to (saturations springs) before.step n ≡ Some due) where
    ahead : Next (saturations springs) n before.step due
    ahead = next-is (saturations springs) before.step n due e

    looked : 0 < before.looks
    looked = omega (arith, k.count)

    -- what a further look relies on
    pub look-due : n ≤ most_tasks
        → (before.looks ≤ most_tasks) × (Some due ≡ due_after (saturations springs) n before) × (0 < before.looks → before.step < due)
    look-due few = (
      omega (arith, looks-left w springs n before.step before.looks k due ahead),
      sym (due-later (saturations springs) n before looked ∙ e),
      λ later. ahead.above,
    )

    module _ (after : Search) (o : OneLook (weighed_at w springs n) (saturations springs) n before after) where
      -- it was at the step due
      at-due : after.step ≡ due
      at-due = one-step _ _ (o.step ∙ (due-later (saturations springs) n before looked ∙ e))

      -- and the division goes as far as it
      pub stretch : Next (saturations springs) n after.from after.step
      stretch = rw (o.from, at-due) ahead

      pub next-passes : (step : ℕ) → after.passed ≡ true → step ≡ divided w springs n after.from after.step
          → SearchEnds (weighed_at w springs n) (saturations springs) n (record { step = Some step; looks = after.looks })
      next-passes step t q =
          rw (q, o.from, at-due, o.count)
          (ends-divided w springs n before.step before.looks k due ahead (sym (rw at-due at o.tested) ∙ t))

      pub next-fails : after.passed ≡ false → Standing w springs n after × (n + 1 - after.looks < n + 1 - before.looks)
      next-fails f = (
        rw (at-due, o.count) (failed-next w springs n before.step before.looks k due ahead (sym (rw at-due at o.tested) ∙ f)),
        omega (arith, o.count, looks-left w springs n before.step before.looks k due ahead),
      )
