-- What is said of full compression and of the first bad record, and that the rules look at the first n records only.
-- Assumes nothing.
use Rattle.ground.proofs.Kit.{ℕ, ◌≤◌, ◌<◌, false, not, List, ◌≡◌, ◌∙◌, ap, arith, leb}
use Rattle.ground.specs.First.{IsFirst}
use Rattle.ground.specs.Folds.{sum_to, max_to}
use Rattle.ground.specs.Least.{least_up_to}
use Rattle.ground.proofs.Buffer.{list-cong}
use Rattle.ground.proofs.Cases.{by_bool, true-false}
use Rattle.ground.proofs.First.{first-is, first_cong}
use Rattle.ground.proofs.Folds.{sum-cong, sum-most, max-to-le, max-cong}
use Rattle.ground.proofs.Least.{least-cong}
use Rattle.kinds.specs.Limits.{most_tasks}
use Rattle.wide_task.specs.declared.WideTask.{WideTask}
use Rattle.wide_task.specs.declared.WideTable.{WideTable}
use Rattle.wide_task.specs.Limits.{most_cores}
use Rattle.wide_task.specs.WideTask.{at, Good, is_good}
use Rattle.wide_task.specs.Cores.{saturation_at, period_at, cores_at}
use Rattle.wide_task.specs.Handover.{StepIs}
use Rattle.wide_finder.specs.Table.{full_compression, first_bad, passes_at, least_step, periods_at, core_counts_at}
use Rattle.wide_finder.specs.Handover.{GoodTable, SumIs}
use Rattle.wide_task.proofs.Records.{good-is}
use Rattle.wide_task.proofs.Tasks.{saturation-most, cores-most}

-- Ask 4: "K is at most 14,999,999"
pub full-most : (rows : List WideTask) (n : ℕ) → ((i : ℕ) → i < n → Good (at rows i)) → full_compression rows n ≤ 14999999
unfolding full_compression
full-most rows n g =
    max-to-le (λ i. saturation_at (at rows i)) n 14999999 (λ i l. omega (arith, saturation-most (at rows i) (g i l)))

-- what works K out has done so
pub full-done : (rows : List WideTask) (n greatest : ℕ) → ((i : ℕ) → i < n → Good (at rows i))
    → greatest ≡ max_to (λ j. saturation_at (at rows j)) n → StepIs (full_compression rows n) greatest
unfolding full_compression
full-done rows n greatest g e = record { is = e; most = omega (arith, e, full-most rows n g) }

-- and what adds the cores up
pub sum-done : (rows : List WideTask) (n k sum : ℕ) → ((i : ℕ) → i < n → Good (at rows i))
    → sum ≡ sum_to (λ i. cores_at (at rows i) k) n → SumIs rows n k sum
sum-done rows n k sum g e =
    record { is = e; most = omega (arith, e, sum-most (λ i. cores_at (at rows i) k) n most_cores (λ i l. cores-most (at rows i) (g i l) k)) }

-- the first bad record in words: those before it are good, and it is not
pub first-bad-is : (rows : List WideTask) (n : ℕ) → IsFirst (λ i. not (is_good (at rows i))) n (first_bad rows n)
unfolding first_bad
first-bad-is rows n = first-is (λ i. not (is_good (at rows i))) n

not-bad : (t : WideTask) → not (is_good t) ≡ false → Good t
not-bad t e = good-is t (by_bool (is_good t) (λ g. g) (λ g. true-false (rw g) e))

-- a table whose records are all good
pub good-table : (t : WideTable) → t.n ≤ most_tasks → t.n ≤ first_bad t.rows t.n → GoodTable t
good-table t few none =
    record { few = few; good = λ i l. not-bad (at t.rows i) ((first-bad-is t.rows t.n).before i (omega arith)) }

-- the rules look at the first n records only
module _ (xs ys : List WideTask) (n : ℕ) (same : (i : ℕ) → i < n → at xs i ≡ at ys i) where
  pub bad-same : first_bad xs n ≡ first_bad ys n
  unfolding first_bad
  bad-same =
      first_cong (λ i. not (is_good (at xs i))) (λ i. not (is_good (at ys i))) n (λ i l. ap (λ (t : WideTask). not (is_good t)) (same i l))

  full-same : full_compression xs n ≡ full_compression ys n
  unfolding full_compression
  full-same = max-cong (λ i. saturation_at (at xs i)) (λ i. saturation_at (at ys i)) n (λ i l. ap saturation_at (same i l))

  passes_same : (m k : ℕ) → passes_at m xs n k ≡ passes_at m ys n k
  unfolding passes_at
  passes_same m k =
      ap (λ (s : ℕ). leb s m)
      (sum-cong (λ i. cores_at (at xs i) k) (λ i. cores_at (at ys i) k) n (λ i l. ap (λ (t : WideTask). cores_at t k) (same i l)))

  pub step_same : (m : ℕ) → least_step m xs n ≡ least_step m ys n
  unfolding least_step
  step_same m =
      least-cong (passes_at m xs n) (passes_at m ys n) (full_compression xs n) (passes_same m)
      ∙ ap (least_up_to (passes_at m ys n)) full-same

  pub periods-same : (k : ℕ) → periods_at xs n k ≡ periods_at ys n k
  unfolding periods_at
  periods-same k =
      list-cong (λ i. period_at (at xs i) k) (λ i. period_at (at ys i) k) n (λ i l. ap (λ (t : WideTask). period_at t k) (same i l))

  pub core-counts-same : (k : ℕ) → core_counts_at xs n k ≡ core_counts_at ys n k
  unfolding core_counts_at
  core-counts-same k =
      list-cong (λ i. cores_at (at xs i) k) (λ i. cores_at (at ys i) k) n (λ i l. ap (λ (t : WideTask). cores_at t k) (same i l))
