-- Passing stays, since the cores of each task never rise with the step; and demand 2's words on the least passing step.
-- Assumes nothing.
use Rattle.ground.proofs.Kit.{ℕ, zero, suc, ◌+◌, ◌*◌, ◌≤◌, ◌<◌, true, false, List, ◌≡◌, sym, arith, le-leb, lt-leb, leb-true, Some, None}
use Rattle.ground.specs.Folds.{sum_to}
use Rattle.ground.specs.Least.{LeastAt, Rising}
use Rattle.kinds.specs.Limits.{most_processors}
use Rattle.ground.proofs.Folds.{sum-le, term-le-sum}
use Rattle.ground.proofs.Least.{least_at, least-none, least-nothing}
use Rattle.wide_task.specs.declared.WideTask.{WideTask}
use Rattle.wide_task.specs.WideTask.{at, Good}
use Rattle.wide_task.specs.Cores.{cores_at}
use Rattle.wide_finder.specs.Table.{full_compression, cores_sum, passes_at, least_step}
use Rattle.wide_task.proofs.Tasks.{cores-two, cores-fall}

-- passing says that the cores fit
pub cores-fit : (m : ℕ) (rows : List WideTask) (n k : ℕ) → passes_at m rows n k ≡ true → cores_sum rows n k ≤ m
unfolding passes_at
cores-fit m rows n k e = leb-true (cores_sum rows n k) m e

-- no task alone needs more than all do
pub cores-within : (rows : List WideTask) (n k i : ℕ) → i < n → cores_at (at rows i) k ≤ cores_sum rows n k
cores-within rows n k i l = term-le-sum (λ j. cores_at (at rows j) k) n i l

-- a step that passes is followed by steps that pass
pub passes-rising : (m : ℕ) (rows : List WideTask) (n : ℕ) → ((i : ℕ) → i < n → Good (at rows i)) → Rising (passes_at m rows n)
unfolding passes_at
passes-rising m rows n g j k h p =
    let s = sum-le (λ i. cores_at (at rows i) k) (λ i. cores_at (at rows i) j) n (λ i l. cores-fall (at rows i) (g i l) j k h) in
    let b = leb-true (sum_to (λ i. cores_at (at rows i) j) n) m p in
    le-leb (sum_to (λ i. cores_at (at rows i) k) n) m (omega (arith, s, b))

-- the step passes, and no smaller one does
pub step-at : (m : ℕ) (rows : List WideTask) (n k : ℕ) → least_step m rows n ≡ Some k → LeastAt (passes_at m rows n) (full_compression rows n) k
unfolding least_step
step-at m rows n k e = least_at (passes_at m rows n) (full_compression rows n) k e

-- none means that no step from 0 to K passes
pub step-nothing : (m : ℕ) (rows : List WideTask) (n : ℕ) → least_step m rows n ≡ None
    → (k : ℕ) → k ≤ full_compression rows n → passes_at m rows n k ≡ false
unfolding least_step
step-nothing m rows n e = least-nothing (passes_at m rows n) (full_compression rows n) e

-- and where none passes there is none
pub nothing-passes : (m : ℕ) (rows : List WideTask) (n : ℕ) → ((k : ℕ) → k ≤ full_compression rows n → passes_at m rows n k ≡ false)
    → least_step m rows n ≡ None
unfolding least_step
nothing-passes m rows n h =
    sym (least-none (passes_at m rows n) (full_compression rows n) (full_compression rows n + 1) (λ j l. h j (omega arith)) (omega arith))

-- each task needs two cores, so more than 8 never pass
two-each : (rows : List WideTask) (n k : ℕ) → ((i : ℕ) → i < n → Good (at rows i)) → 2 * n ≤ sum_to (λ i. cores_at (at rows i) k) n
unfolding sum_to
two-each rows zero k g = omega arith
two-each rows (suc n) k g =
    omega (arith, two-each rows n k (λ i l. g i (omega arith)), cores-two (at rows n) (g n (omega arith)) k)

pub nine-never-pass : (m : ℕ) (rows : List WideTask) (n k : ℕ) → ((i : ℕ) → i < n → Good (at rows i)) → m ≤ most_processors → 9 ≤ n
    → passes_at m rows n k ≡ false
unfolding passes_at
nine-never-pass m rows n k g h l = lt-leb _ m (omega (arith, two-each rows n k g))
