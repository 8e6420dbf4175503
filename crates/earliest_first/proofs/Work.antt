-- The work done on the jobs that are due by d, in a tick before d: m ticks of it where a due job waits, and at least one where a due job runs.
-- Assumes nothing.
use Rattle.ground.proofs.Kit.{ℕ, suc, ◌+◌, ◌*◌, ◌≤◌, ◌<◌, Bool, true, false, ◌≡◌, ap, arith, leb, le-leb, leb-true}
use Rattle.ground.specs.Choice.{pick, bit, both}
use Rattle.ground.proofs.Cases.{by_bool}
use Rattle.ground.proofs.Totals.{total-le, total-wider}
use Rattle.schedule.specs.Jobs.{Jobs, deadline}
use Rattle.schedule.specs.Schedule.{Schedule, done, Pending}
use Rattle.schedule.proofs.Done.{done_more}
use Rattle.earliest_first.specs.EarliestFirst.{IsNext, EarliestFirst}
use Rattle.earliest_first.proofs.Due.{due_sum, if_due, Due, due-line, term-le-due}

-- a job's whole fluid work, and the work done on it before tick t, both times S
abbrev pub paid : Jobs → (ℕ → ℕ) → ℕ → Schedule → ℕ → ℕ → ℕ → ℕ
paid jobs load S runs t i j = load i * jobs.period i + S * done runs i j t

-- the jobs that run in tick t, of those that are due by d
abbrev pub worked : Jobs → ℕ → Schedule → ℕ → ℕ
worked jobs d runs t = due_sum jobs d (λ i j. bit (runs t i j))

-- a running job that is due early is due
due-early : (run : Bool) (x early d : ℕ) → early ≤ d → bit (both run (leb x early)) ≤ pick (leb x d) (bit run) 0
due-early true x early d h =
    by_bool (leb x early)
    (λ e. rw (e, le-leb x d (omega (arith, leb-true x early e))) (omega arith))
    (λ e. rw e (omega arith))
due-early false x early d h = omega arith

module _ (jobs : Jobs) (runs : Schedule) (d t : ℕ) where
  -- each tick adds S for each due job that runs
  pub work-rises : (load : ℕ → ℕ) (S : ℕ)
      → due_sum jobs d (paid jobs load S runs (suc t)) ≡ due_sum jobs d (paid jobs load S runs t) + S * worked jobs d runs t
  work-rises load S =
      due-line jobs d (paid jobs load S runs (suc t)) (paid jobs load S runs t) (λ i j. bit (runs t i j)) S
      (λ i j. omega (arith, ap (λ (x : ℕ). S * x) (done_more runs i j t)))

  module _ (i j : ℕ) (due : Due jobs d i j) where
    -- where a due job runs, one due job runs at least
    pub runs-one : runs t i j ≡ true → 1 ≤ worked jobs d runs t
    runs-one e = omega (arith, ap bit e, term-le-due jobs d (λ a b. bit (runs t a b)) i j due)

    -- where a due job that is next of its task waits, m due jobs run
    pub waits-all : (m : ℕ) → EarliestFirst m jobs runs → t < d → Pending jobs runs t i j → IsNext jobs runs t i j → runs t i j ≡ false
        → m ≤ worked jobs d runs t
    unfolding due_sum
    waits-all m first l p next e =
        let n = jobs.tasks in
        let early : ℕ → ℕ → ℕ = λ a b. bit (both (runs t a b) (leb (deadline jobs a b) (deadline jobs i j))) in
        omega (
          arith,
          first.earliest t i j due.task p next e,
          total-wider n (suc t) early (suc d) (omega arith),
          total-le n (suc d) early (if_due jobs d (λ a b. bit (runs t a b)))
              (λ a k b o. due-early (runs t a b) (deadline jobs a b) (deadline jobs i j) d due.by),
        )
