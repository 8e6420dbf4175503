-- The rows of a sheet, read section by section: what each way through `read_rows` shows of the definition.
-- Assumes nothing.
use Rattle.ground.proofs.Kit.{ℕ, ◌+◌, ◌*◌, ◌≤◌, ◌<◌, Some, None, true, false, List, ◌++◌, ◌≡◌, sym, ◌∙◌, ap, arith, length, take, drop, length-take-le}
use Rattle.kinds.specs.declared.Task.{Task}
use Rattle.kinds.specs.declared.Granted.{Granted}
use Rattle.kinds.specs.declared.Refusal.TheVariants.{SheetEnds, WrongResultCount, BytesAfterLast}
use Rattle.kinds.specs.Limits.{most_tasks}
use Rattle.kinds.specs.Task.{no_tasks}
use Rattle.kinds.specs.Answer.{accepted, refused}
use Rattle.field.specs.Number.{u16_at}
use Rattle.field.specs.Field.{field16, Got}
use Rattle.field.proofs.Fields.{got, missed}
use Rattle.sheet.specs.Sections.{task_size, granted_size, results_place, granted_place, results_fit}
use Rattle.sheet.specs.Rows.{task_at, granted_at, no_results, rows_in}
use Rattle.sheet.specs.Reading.{no_sheet, settings_count, task_count, result_count, end_of, tasks_in, results_in, sheet_in, read_rows}
use Rattle.sheet.specs.declared.Head.{Head}
use Rattle.sheet.specs.Handover.{Begins}
use Rattle.sheet.proofs.Rows.{rows-short, rows-read}
use Rattle.sheet.proofs.Stages as stages

-- the task records were read
pub record TasksRead (s : List ℕ) (head : Head) (from : ℕ) (tasks : List Task) (at : ℕ) : Type 0 where
  pub begins : Begins s head from
  pub rows_is : tasks ≡ tasks_in s
  pub next-is : at ≡ results_place (settings_count s) (task_count s)

-- and the result count after them
pub record CountRead (s : List ℕ) (head : Head) (from : ℕ) (tasks : List Task) (at r first : ℕ) : Type 0 where
  pub tasks-read : TasksRead s head from tasks at
  pub r-is : r ≡ result_count s
  pub first-is : first ≡ granted_place (settings_count s) (task_count s)
  pub within : granted_place (settings_count s) (task_count s) ≤ length s

-- and the results
pub record ResultsRead (s : List ℕ) (head : Head) (from : ℕ) (tasks : List Task) (at r first : ℕ) (granted : List Granted) (end : ℕ) : Type 0 where
  pub counted : CountRead s head from tasks at r first
  pub fit : results_fit (result_count s) (task_count s) ≡ true
  pub rows_is : granted ≡ results_in s
  pub next-is : end ≡ end_of s
  pub within : end_of s ≤ length s

module _ {s : List ℕ} {head : Head} {from : ℕ} (b : Begins s head from) where
  pub tasks-end : length s < from + task_size * length (take head.n no_tasks) → refused no_sheet (SheetEnds (length s)) ≡ read_rows s
  tasks-end short =
      let h = rows-short no_tasks task_size task_at s b.from_is b.n-is b.few short in
      stages.count-missing s (omega arith)

  pub tasks-read : {rows : List Task} {at : ℕ}
      → Got s from (task_size * length (take head.n no_tasks)) (λ t place. rows_in task_size task_at t place (length (take head.n no_tasks))) rows at
      → TasksRead s head from (rows ++ drop head.n no_tasks) at
  tasks-read g =
      let h = rows-read no_tasks task_size task_at s b.from_is b.n-is b.few g in
      record { begins = b; rows_is = h.is; next-is = h.next-is }

module _ {s : List ℕ} {head : Head} {from : ℕ} {tasks : List Task} {at : ℕ} (p : TasksRead s head from tasks at) where
  pub count-end : None ≡ field16 s at → refused no_sheet (SheetEnds (length s)) ≡ read_rows s
  count-end e =
      let short = missed 2 u16_at s at e in
      let h = p.next-is in
      stages.count-missing s (omega arith)

  pub count-read : {number first r : ℕ} → Some (number, first) ≡ field16 s at → r ≡ number → CountRead s head from tasks at r first
  unfolding result_count
  count-read e k =
      let g = got 2 u16_at s at _ _ e in
      let h = p.next-is in
      let w = g.within in
      record { tasks-read = p; r-is = k ∙ (g.is ∙ ap (u16_at s) h); first-is = omega (arith, g.next-is); within = omega arith }

module _ {s : List ℕ} {head : Head} {from : ℕ} {tasks : List Task} {at r first : ℕ} (p : CountRead s head from tasks at r first) where
  fit_is : results_fit r head.n ≡ results_fit (result_count s) (task_count s)
  fit_is = rw (p.r-is, p.tasks-read.begins.n-is)

  pub count-wrong : results_fit r head.n ≡ false → refused no_sheet (WrongResultCount at) ≡ read_rows s
  count-wrong f = rw p.tasks-read.next-is (stages.count-wrong s p.within (sym fit_is ∙ f))

  pub results-due : first ≤ length s
  results-due = let h = p.first-is in let w = p.within in omega arith

  module _ (f : results_fit r head.n ≡ true) where
    pub results-few : r ≤ most_tasks
    results-few = let few = stages.fits-few r head.n f in let most = p.tasks-read.begins.few in omega arith

    pub results-room : length (take r no_results) ≡ r
    results-room = length-take-le r no_results results-few

    pub results_end : length s < first + granted_size * length (take r no_results) → refused no_sheet (SheetEnds (length s)) ≡ read_rows s
    results_end short =
        let h = rows-short no_results granted_size granted_at s p.first-is p.r-is results-few short in
        stages.results-missing s p.within (sym fit_is ∙ f) (omega arith)

    pub results-read : {rows : List Granted} {end : ℕ}
        → Got s first (granted_size * length (take r no_results)) (λ t place. rows_in granted_size granted_at t place (length (take r no_results))) rows end
        → ResultsRead s head from tasks at r first (rows ++ drop r no_results) end
    results-read g =
        let h = rows-read no_results granted_size granted_at s p.first-is p.r-is results-few g in
        record { counted = p; fit = sym fit_is ∙ f; rows_is = h.is; next-is = h.next-is; within = h.within }

module _ {s : List ℕ} {head : Head} {from : ℕ} {tasks : List Task} {at r first : ℕ} {granted : List Granted} {end : ℕ}
    (p : ResultsRead s head from tasks at r first granted end) where
  pub bytes_after : end < length s → refused no_sheet (BytesAfterLast end) ≡ read_rows s
  bytes_after h =
      let k = p.next-is in
      rw k (stages.bytes_after s p.counted.within p.fit (omega arith))

  pub all_read : length s ≤ end
      → accepted
      (record { count = head.count; settings = head.settings; table = record { rows = tasks; n = head.n }; results = record { rows = granted; n = r } })
      ≡ read_rows s
  unfolding sheet_in
  all_read h =
      let k = p.next-is in
      let w = p.within in
      let begins = p.counted.tasks-read.begins in
      rw (begins.count-is, begins.settings-is, begins.n-is, p.counted.tasks-read.rows_is, p.counted.r-is, p.rows_is)
      (stages.rows_whole s p.counted.within p.fit (omega arith))
