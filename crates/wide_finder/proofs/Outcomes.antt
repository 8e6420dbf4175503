-- The outcome depends on the first n records only, and where there are too many on none. That no second answer meets it is `outcome`'s law
-- `no-second-answer`, which is said of any outcome.
-- Assumes nothing.
use Rattle.ground.proofs.Kit.{ℕ, ◌≤◌, ◌<◌, min, List, ◌≡◌, ap, length}
use Rattle.kinds.specs.Limits.{most_tasks}
use Rattle.admission.specs.Admission.{and_then, misset, gate, roomy, judged}
use Rattle.admission.proofs.Chain.{gate-passed, then-admitted}
use Rattle.outcome.proofs.Outcomes.{settled_same}
use Rattle.wide_task.specs.declared.WideTask.{WideTask}
use Rattle.wide_task.specs.WideTask.{at}
use Rattle.wide_finder.specs.Wide.{admission, found, outcome}
use Rattle.wide_finder.proofs.Tables.{bad-same, step_same, periods-same, core-counts-same}

-- two tables that agree on the first n records are answered alike; where n is too large, any two are
pub outcome-same : (m : ℕ) (xs ys : List WideTask) (n : ℕ) (periods cores : List ℕ)
    → (n ≤ most_tasks → (i : ℕ) → i < n → at xs i ≡ at ys i) → outcome m xs n periods cores ≡ outcome m ys n periods cores
unfolding outcome found admission
outcome-same m xs ys n periods cores same =
    let room = min (length periods) (length cores) in
    settled_same n periods cores _ _ _ _ _ _ _ _ (and_then (gate (misset m) n) (roomy n room)) (λ e. (gate-passed m n (then-admitted _ _ e).0).few)
    (λ few.
    let first = same few in (
      ap (λ (bad : ℕ). judged bad n) (bad-same xs ys n first),
      step_same xs ys n first m,
      periods-same xs ys n first,
      core-counts-same xs ys n first,
    ))
