-- An accepted call in the words of demands 1 and 2: the least passing step, each task's shortest period and fewest cores, and nothing past
-- them; and a call refused by 7: no step from 0 to K passes.
-- Assumes nothing.
use Rattle.ground.proofs.Kit.{ℕ, ◌≤◌, ◌<◌, min, false, List, ◌≡◌, length, get_or, Ok}
use Rattle.ground.specs.Least.{LeastAt}
use Rattle.ground.proofs.Buffer.{list_at, list-past}
use Rattle.rule.specs.Rule.{Shortest}
use Rattle.outcome.specs.Plan.{Meets}
use Rattle.wide_task.specs.declared.WideTask.{WideTask}
use Rattle.wide_task.specs.declared.WideTable.{WideTable}
use Rattle.wide_task.specs.WideTask.{at}
use Rattle.wide_task.specs.Cores.{share_at, period_at, cores_at, Fewest}
use Rattle.wide_finder.specs.Table.{full_compression, passes_at, periods_at, core_counts_at}
use Rattle.wide_finder.specs.Handover.{GoodTable}
use Rattle.wide_finder.specs.Wide.{admission, found, outcome}
use Rattle.wide_task.proofs.Tasks.{shortest, fewest}
use Rattle.wide_finder.proofs.Tables.{good-table}
use Rattle.wide_finder.proofs.Passing.{step-at, step-nothing, nothing-passes}
use Rattle.wide_finder.proofs.Found.{accepting, refused-seven}

-- entry i of the outputs is that of task i, and what stands past the tasks is as it was
pub record Granted (m : ℕ) (t : WideTable) (k : ℕ) (old_periods old_cores periods cores : List ℕ) : Type 0 where
  pub table : GoodTable t
  pub step : LeastAt (passes_at m t.rows t.n) (full_compression t.rows t.n) k
  pub each-period : (i : ℕ) → i < t.n → let task = at t.rows i in Shortest task.c task.tmin task.tmax (share_at task k) (get_or periods i 0)
  pub each-core-count : (i : ℕ) → i < t.n → Fewest (at t.rows i) k (get_or cores i 0)
  pub periods-past : (i : ℕ) → t.n ≤ i → get_or periods i 0 ≡ get_or old_periods i 0
  pub cores-past : (i : ℕ) → t.n ≤ i → get_or cores i 0 ≡ get_or old_cores i 0

pub accepted-granted : (m : ℕ) (t : WideTable) (k : ℕ) (old_periods old_cores periods cores : List ℕ)
    → Meets (outcome m t.rows t.n old_periods old_cores) (Ok k) periods cores → Granted m t k old_periods old_cores periods cores
unfolding outcome periods_at core_counts_at
accepted-granted m t k old_periods old_cores periods cores x =
    let room = min (length old_periods) (length old_cores) in
    let g = accepting m t.rows t.n room k x.answers in
    let good = good-table t g.ready.passed.few g.ready.none-bad in
    let ps = rw (← x.answers) at x.grants in
    let cs = rw (← x.answers) at x.places in
    record {
      table = good;
      step = step-at m t.rows t.n k g.step;
      each-period = λ i l. rw (ps, list_at 0 (λ j. period_at (at t.rows j) k) t.n i _ l) (shortest (at t.rows i) (good.good i l) k);
      each-core-count = λ i l. rw (cs, list_at 0 (λ j. cores_at (at t.rows j) k) t.n i _ l) (fewest (at t.rows i) (good.good i l) k);
      periods-past = λ i l. rw ps (list-past (λ j. period_at (at t.rows j) k) t.n i old_periods l);
      cores-past = λ i l. rw cs (list-past (λ j. cores_at (at t.rows j) k) t.n i old_cores l);
    }

-- refusal 7 is given exactly when the call is admitted and no step from 0 to K passes
module _ (m : ℕ) (rows : List WideTask) (n room : ℕ) where
  pub seven-none : (found m rows n room).number ≡ 7
      → (admission m rows n room ≡ (Ok tt)) × ((k : ℕ) → k ≤ full_compression rows n → passes_at m rows n k ≡ false)
  seven-none e = let s = refused-seven m rows n room e in (s.0, step-nothing m rows n s.1)

  pub none-seven : admission m rows n room ≡ (Ok tt) → ((k : ℕ) → k ≤ full_compression rows n → passes_at m rows n k ≡ false)
      → (found m rows n room).number ≡ 7
  unfolding found
  none-seven a h = let e = nothing-passes m rows n h in rw (a, e)
