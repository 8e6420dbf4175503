-- The change of a plan: at a tick at which every job released under the standing plan is done, the jobs of the proposed one may start.
-- Assumes nothing.
use Rattle.ground.proofs.Kit.{ℕ, refl, ⊎_elim, eq-eqb}
use Rattle.kinds.specs.declared.Policy.{Policy}
use Rattle.kinds.specs.declared.Policy.TheVariants.{Pooled, GlobalEdf, GlobalRm, FirstFit, OneCoreRm, Further}
use Rattle.kinds.specs.Policy.{meant}
use Rattle.policy.specs.Under.{loads_under}
use Rattle.proposal.specs.Proposal.{place_in}
use Rattle.schedule.specs.Jobs.{Jobs}
use Rattle.schedule.specs.Schedule.{Schedule, OnlyReleased, OnlyPending, MeetsDeadlines}
use Rattle.schedule.specs.Change.{QuietAt, StartsAt, ChangesAt}
use Rattle.schedule.proofs.Change.{quiet-change}
use Rattle.met.specs.Kernel.{KernelOf}
use Rattle.met.specs.UnderPlan.{UnderPlan}
use Rattle.met.proofs.Accepted.{accepted-meets}

module _ (jobs : Jobs) (runs : Schedule) where
  -- what is pending is released
  pending-released : OnlyPending jobs runs → OnlyReleased jobs runs
  pending-released only t i j e = let run = only t i j e in (run.0, run.1.released)

  -- no kernel runs a job before its release: by cases of the policy
  kernel-released : (p : Policy) (m : ℕ) (load place : ℕ → ℕ) → KernelOf p m load place jobs runs → OnlyReleased jobs runs
  kernel-released Pooled m load place kernel =
      ⊎_elim {C = OnlyReleased jobs runs} (λ one. pending-released one.1.only-pending) (λ fluid. fluid.only-released) kernel
  kernel-released GlobalEdf m load place kernel = pending-released kernel.only-pending
  kernel-released GlobalRm m load place kernel = absurd kernel
  kernel-released FirstFit m load place kernel =
      λ t i j e. let run = (kernel (place i)).only-pending t i j (rw (eq-eqb (place i) (place i) refl) e) in (run.0, run.1.released)
  kernel-released OneCoreRm m load place kernel = pending-released kernel.only-pending
  kernel-released (Further q) m load place kernel = absurd kernel

  -- jobs that are run under a plan meet their deadlines
  pub under-meets : UnderPlan jobs runs → MeetsDeadlines jobs runs
  under-meets u =
      accepted-meets u.serves u.settings u.rows u.n u.step u.old_periods u.old_processors u.periods u.processors u.plan
      jobs u.follows runs u.kernel

  -- and none is run before its release
  under-released : UnderPlan jobs runs → OnlyReleased jobs runs
  under-released u =
      kernel-released (meant u.settings.policy) u.settings.m (loads_under u.settings u.rows u.n u.step) (place_in u.processors) u.kernel

-- so nothing is late where the plan changes at such a tick, whatever the two policies are
pub plan-change : (c : ℕ) (standing : Jobs) (before : Schedule) (proposed : Jobs) (after : Schedule) → UnderPlan standing before → UnderPlan proposed after
    → QuietAt c standing before → StartsAt c proposed → ChangesAt c standing before proposed after
plan-change c standing before proposed after old new quiet starts =
    quiet-change c standing before proposed after (under-meets standing before old) quiet (under-meets proposed after new) (under-released proposed after new)
    starts
