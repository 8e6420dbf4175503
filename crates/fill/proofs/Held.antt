-- The numbers of a sheet that was read and planned fit their fields, so that it reads back as it is.
-- Assumes nothing.
use Rattle.ground.proofs.Kit.{ℕ, zero, suc, ◌+◌, ◌*◌, ◌≤◌, ◌<◌, true, List, ◌≡◌, sym, ◌∙◌, ap, arith, length, get_or}
use Rattle.ground.specs.Laid.{padded_to}
use Rattle.ground.proofs.Buffer.{list-in}
use Rattle.ground.proofs.Cases.{by_bool, by_le}
use Rattle.ground.proofs.Laid.{over-long, over-in, over-out, padded-to-long, padded-to-in, padded-to-out}
use Rattle.kinds.specs.declared.Task.{Task}
use Rattle.kinds.specs.declared.Granted.{Granted}
use Rattle.kinds.specs.declared.Sheet.{Sheet}
use Rattle.kinds.specs.Limits.{most_tasks}
use Rattle.kinds.specs.Task.{no_task, at}
use Rattle.kinds.specs.Policy.{meant, is_first_fit}
use Rattle.kinds.specs.Settings.{fill_ins, setting, settings_of, numbers_of}
use Rattle.kinds.specs.Answer.{accepted}
use Rattle.kinds.proofs.Numbers.{numbers-back, fill-in-low}
use Rattle.share.specs.Share.{period_at}
use Rattle.share.specs.Table.{periods_at}
use Rattle.share.proofs.Tasks.{shortest-on}
use Rattle.share.proofs.Tables.{all-good, all-on}
use Rattle.fit.proofs.Placing.{fits-placed}
use Rattle.policy.specs.Under.{rows_under, loads_under}
use Rattle.policy.proofs.Demand.{step-at}
use Rattle.policy.proofs.Tests.{first-fit-passes}
use Rattle.outcome.specs.Plan.{processor_at, processors_at}
use Rattle.outcome.proofs.Found.{Accepting, accepting}
use Rattle.plain_finder.specs.Asked.{asked}
use Rattle.field.specs.Number.{Bytes, u16_at, number_at, limit}
use Rattle.sheet.specs.Sections.{setting_size, task_size, numbers_place, records_place}
use Rattle.sheet.specs.Rows.{task_at, no_granted}
use Rattle.sheet.specs.Reading.{settings_count, task_count, numbers_in, sheet_in}
use Rattle.sheet.proofs.Whole.{Whole, few-settings}
use Rattle.writer.specs.Canonical.{granted_in, TaskStorable, GrantedStorable, SheetStorable}
use Rattle.fill.specs.Results.{entry_at, results_of, plan_periods, plan_processors, with_plan}

-- a number of so many bytes
number-held : (s : List ℕ) → Bytes s → (size place : ℕ) → number_at size s place < limit size
unfolding number_at
number-held s bytes zero place = omega arith
number-held s bytes (suc size) place = omega (arith, bytes place, number-held s bytes size (place + 1))

-- what holds of each row that is used, and of an unused place, holds at each number
rows-held : {A : Type 0} (P : A → Type 0) (none : A) (f : ℕ → A) (n : ℕ) → n ≤ most_tasks → P none → ((i : ℕ) → i < n → P (f i)) → (i : ℕ)
    → P (get_or (padded_to none most_tasks f n) i none)
rows-held P none f n few unused used i =
    by_le n i (λ h. rw (padded-to-out none most_tasks f n i h) unused) (λ h. rw (padded-to-in none most_tasks f n i h few) (used i h))

-- the results of a plan, and the unused places after them
abbrev plan_at : Sheet → ℕ → ℕ → Granted
plan_at x k = entry_at (plan_periods x k) (plan_processors x k)

pub plan-room : (x : Sheet) (k : ℕ) → length (with_plan x k).results.rows ≡ most_tasks
unfolding with_plan results_of
plan-room x k = padded-to-long no_granted most_tasks (plan_at x k) x.table.n

pub plan-unused : (x : Sheet) (k i : ℕ) → x.table.n ≤ i → granted_in (with_plan x k) i ≡ no_granted
unfolding with_plan results_of
plan-unused x k i = padded-to-out no_granted most_tasks (plan_at x k) x.table.n i

module _ (x : Sheet) (k : ℕ) (few : x.table.n ≤ most_tasks) (e : asked x ≡ accepted k) where
  accepts : Accepting true x.settings x.table.rows x.table.n x.table.n k
  unfolding asked
  accepts = accepting true x.settings x.table.rows x.table.n x.table.n k (sym e)

  abbrev paid : List Task
  paid = rows_under x.settings x.table.rows x.table.n

  abbrev loads : ℕ → ℕ → ℕ
  loads = loads_under x.settings x.table.rows x.table.n

  period-held : (i : ℕ) → i < x.table.n → get_or (plan_periods x k) i 0 < limit 4
  unfolding periods_at
  period-held i l =
      let f : ℕ → ℕ = λ j. period_at x.settings.notch (at paid j) k in
      let w = x.settings.swap in
      let q = x.settings.notch in
      let none-bad = accepts.ready.none-bad in
      let good = all-good w q x.table.rows x.table.n none-bad i l in
      let on = all-on w q x.table.rows x.table.n none-bad accepts.ready.notched i l in
      rw (list-in 0 f x.table.n i l) (omega (arith, good.tmax-most, (shortest-on (at paid i) good q on k).high))

  place-held : (i : ℕ) → i < x.table.n → processor_at (meant x.settings.policy) x.settings.m loads k i < limit 2
  place-held i l =
      let p = meant x.settings.policy in
      let load = loads k in
      by_bool (is_first_fit p)
      (λ first.
      let passing = (step-at p x.settings.m loads x.table.n _ k accepts.step).passes in
      let placed = fits-placed x.settings.m load x.table.n (sym (first-fit-passes p x.settings.m load x.table.n first) ∙ passing) i l in
      rw first (omega (arith, placed, accepts.ready.passed.m-most)))
      (λ other. rw other (omega arith))

  processor-held : (i : ℕ) → i < x.table.n → get_or (plan_processors x k) i 0 < limit 2
  unfolding processors_at
  processor-held i l =
      let f = processor_at (meant x.settings.policy) x.settings.m loads k in
      rw (list-in 0 f x.table.n i l) (place-held i l)

  pub results-held : (i : ℕ) → GrantedStorable (granted_in (with_plan x k) i)
  unfolding with_plan results_of
  results-held i =
      rows-held GrantedStorable no_granted (plan_at x k) x.table.n few
      (record { period = omega arith; processor = omega arith })
      (λ j l. record { period = period-held j l; processor = processor-held j l })
      i

-- a setting that stands in bytes, or is filled in
abbrev setting_at : List ℕ → ℕ → ℕ
setting_at s i = u16_at s (numbers_place + setting_size * i)

setting-held : (s : List ℕ) → Bytes s → Whole s → (i : ℕ) → setting (numbers_in s) i < limit setting_size
setting-held s bytes w i =
    let c = settings_count s in
    by_le c i
    (λ h. omega (arith, over-out fill_ins (setting_at s) 0 c i h, fill-in-low i))
    (λ h. rw (over-in fill_ins (setting_at s) 0 c i h (few-settings w)) (number-held s bytes setting_size (numbers_place + setting_size * i)))

settings-held : (s : List ℕ) → Bytes s → Whole s → (i : ℕ) → setting (numbers_of (settings_of (numbers_in s))) i < limit setting_size
settings-held s bytes w i =
    let back = numbers-back (numbers_in s) (over-long fill_ins (setting_at s) (settings_count s)) in
    omega (arith, ap (λ (l : List ℕ). setting l i) back, setting-held s bytes w i)

-- a sheet that stands in bytes, with a plan
pub planned-held : (s : List ℕ) → Bytes s → Whole s → (k : ℕ) → asked (sheet_in s) ≡ accepted k → SheetStorable (with_plan (sheet_in s) k)
unfolding with_plan results_of sheet_in
planned-held s bytes w k e =
    let place : ℕ → ℕ = λ i. records_place (settings_count s) + task_size * i in
    let tasks : ℕ → Task = λ i. task_at s (place i) in
    let held : (i : ℕ) → TaskStorable (tasks i) =
    λ i.
    record {
      c = number-held s bytes 4 (place i);
      tmin = number-held s bytes 4 (place i + 4);
      tmax = number-held s bytes 4 (place i + 8);
      e = number-held s bytes 4 (place i + 12);
    } in
    record {
      settings = settings-held s bytes w;
      tasks = rows-held TaskStorable no_task tasks (task_count s) w.few
          (record { c = omega arith; tmin = omega arith; tmax = omega arith; e = omega arith }) (λ i l. held i);
      tasks-room = padded-to-long no_task most_tasks tasks (task_count s);
      results = results-held (sheet_in s) k w.few e;
      results-room = plan-room (sheet_in s) k;
    }
