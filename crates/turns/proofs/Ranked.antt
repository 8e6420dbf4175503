-- A kernel that goes by turns: what runs is pending, at most m run, and a pending job that waits has m before it that run.
-- Assumes nothing.
use Rattle.ground.proofs.Kit.{ℕ, suc, ◌≤◌, ◌<◌, Bool, true, false, ◌≡◌, refl, sym, ◌∙◌, arith, ltb, lt-ltb, ltb-true, ltb-false}
use Rattle.ground.specs.Choice.{bit, both}
use Rattle.ground.proofs.Cases.{true-false, both_true}
use Rattle.ground.proofs.Totals.{total-le}
use Rattle.schedule.specs.Jobs.{Jobs}
use Rattle.schedule.specs.Schedule.{Pending, OnlyPending, running}
use Rattle.turns.specs.Rule.{is_pending, work_by, schedule_by}
use Rattle.turns.specs.Ranked.{Turns, count_before, is_taken, chosen, ranked, Distinct}
use Rattle.turns.proofs.Rules.{pending-found, pending-passes}
use Rattle.turns.proofs.Ranks.{taken-all, taken-most}

-- a pending job that is not chosen has m before it
not-few : (waits few : Bool) → waits ≡ true → both waits few ≡ false → few ≡ false
not-few true few e h = h
not-few false few e h = true-false e refl

module _ (turn : Turns) (m : ℕ) (jobs : Jobs) where
  -- what runs is a pending job of a task
  pub ranked-pending : OnlyPending jobs (ranked turn m jobs)
  unfolding schedule_by
  ranked-pending t i j e =
      let work = work_by (chosen turn m jobs) t in
      let parts = both_true (ltb i jobs.tasks) _ e in
      (ltb-true i jobs.tasks parts.0, pending-found (chosen turn m jobs) jobs t i j (both_true (is_pending jobs work t i j) _ parts.1).0)

  module _ (distinct : Distinct turn jobs) (t : ℕ) where
    -- the jobs that are pending
    abbrev waits : ℕ → ℕ → Bool
    waits = is_pending jobs (work_by (chosen turn m jobs) t) t

    -- and those of them that are taken
    takes : ℕ → ℕ → Bool
    takes = is_taken jobs.tasks (suc t) (turn t) waits m

    -- what runs is what is taken
    run_is : (i : ℕ) → i < jobs.tasks → (j : ℕ) → ranked turn m jobs t i j ≡ takes i j
    unfolding takes schedule_by
    run_is i l j = rw (lt-ltb i jobs.tasks l)

    -- at most m run
    pub ranked-most : running jobs (ranked turn m jobs) t ≤ m
    unfolding takes
    ranked-most =
        omega (
          arith,
          total-le jobs.tasks (suc t) (λ i j. bit (ranked turn m jobs t i j)) (λ i j. bit (takes i j)) (λ i l j o. rw (run_is i l j) (omega arith)),
          taken-most jobs.tasks (suc t) (turn t) waits m (distinct t),
        )

    -- a pending job that waits has m before it that run
    pub ranked-first : (i : ℕ) → i < jobs.tasks → (j : ℕ) → Pending jobs (ranked turn m jobs) t i j → ranked turn m jobs t i j ≡ false
        → m ≤ count_before jobs.tasks (suc t) (turn t) (ranked turn m jobs t) (turn t i j)
    unfolding takes
    ranked-first i l j pending idle =
        let n = jobs.tasks in
        let before = count_before n (suc t) (turn t) waits (turn t i j) in
        let few = not-few (waits i j) (ltb before m) (pending-passes (chosen turn m jobs) jobs t i j pending) (sym (run_is i l j) ∙ idle) in
        omega (
          arith,
          taken-all n (suc t) (turn t) waits m (distinct t) (turn t i j) (ltb-false before m few),
          total-le n (suc t)
              (λ a b. bit (both (takes a b) (ltb (turn t a b) (turn t i j))))
              (λ a b. bit (both (ranked turn m jobs t a b) (ltb (turn t a b) (turn t i j))))
              (λ a k b o. rw (run_is a k b) (omega arith)),
        )
