-- What was written is read as the canonical form of the sheet: `forth`. Each section, row and field stands in the bytes written.
-- Assumes nothing.
use Rattle.ground.proofs.Kit.{ℕ, zero, suc, ◌+◌, ◌*◌, ◌≤◌, ◌<◌, true, List, ◌++◌, ◌≡◌, sym, ◌∙◌, ap, arith, length, get_or, length-append}
use native.Mathlib.Nat.{mul-suc}
use Rattle.ground.specs.Folds.{join_to}
use Rattle.ground.specs.Laid.{over, padded_to}
use Rattle.ground.proofs.Cases.{by_le}
use Rattle.ground.proofs.Laid.{over-cong}
use Rattle.kinds.specs.declared.Task.{Task}
use Rattle.kinds.specs.declared.Granted.{Granted}
use Rattle.kinds.specs.declared.Sheet.{Sheet}
use Rattle.kinds.specs.Limits.{most_tasks}
use Rattle.kinds.specs.Task.{no_task, no_tasks, at}
use Rattle.kinds.specs.Settings.{fill_ins, settings_of, numbers_of}
use Rattle.kinds.specs.Answer.{accepted}
use Rattle.field.specs.Number.{u16_at, u32_at, bytes_of, limit}
use Rattle.field.proofs.Numbers.{bytes-long}
use Rattle.field.proofs.Parts.{Part, part-all, part_left, part_right, part-number}
use Rattle.sheet.specs.Sections.{setting_size, task_size, granted_size, settings_place, numbers_place, tasks_place, records_place, results_place, granted_place, settings_fit, results_fit}
use Rattle.sheet.specs.Rows.{task_at, granted_at, no_granted, no_results, rows_at, task_bytes, granted_bytes, rows_bytes}
use Rattle.sheet.specs.Reading.{settings_count, task_count, result_count, numbers_in, tasks_in, results_in, sheet_in, read_sheet}
use Rattle.sheet.proofs.Stages.{settings-few, fits-few}
use Rattle.sheet.proofs.Whole.{Whole, whole-accepted}
use Rattle.writer.specs.Encode.{numbers_bytes, tasks_bytes, results_bytes, settings_bytes, encode, length_of}
use Rattle.writer.specs.Canonical.{setting_in, granted_in, canonical, TaskStorable, GrantedStorable, SheetStorable}
use Rattle.writer.proofs.Rows.{task-long, granted-long, settings-long, rows_long, tasks-long, encode-long}

-- a row whose bytes stand at a place is read there
task-back : {s : List ℕ} {place : ℕ} (t : Task) → TaskStorable t → Part s place task_size (task_bytes t) → task_at s place ≡ t
unfolding task_bytes
task-back {s} {place} t h p =
    let b₁ = bytes-long 4 t.c in
    let b₂ = bytes-long 4 t.tmin in
    let b₃ = bytes-long 4 t.tmax in
    let p₁ = part_left 4 12 (bytes_of 4 t.c) _ b₁ p in
    let q₁ = part_right 4 12 (bytes_of 4 t.c) _ b₁ p in
    let p₂ = part_left 4 8 (bytes_of 4 t.tmin) _ b₂ q₁ in
    let q₂ = part_right 4 8 (bytes_of 4 t.tmin) _ b₂ q₁ in
    let p₃ = part_left 4 4 (bytes_of 4 t.tmax) _ b₃ q₂ in
    let p₄ = part_right 4 4 (bytes_of 4 t.tmax) _ b₃ q₂ in
    let e₃ : place + 4 + 4 ≡ place + 8 = omega arith in
    let e₄ : place + 4 + 4 + 4 ≡ place + 12 = omega arith in
    let c = part-number 4 t.c h.c p₁ in
    let tmin = part-number 4 t.tmin h.tmin p₂ in
    let tmax = ap (u32_at s) (sym e₃) ∙ part-number 4 t.tmax h.tmax p₃ in
    let e = ap (u32_at s) (sym e₄) ∙ part-number 4 t.e h.e p₄ in
    λ i. record { c = c i; tmin = tmin i; tmax = tmax i; e = e i }

granted-back : {s : List ℕ} {place : ℕ} (g : Granted) → GrantedStorable g → Part s place granted_size (granted_bytes g) → granted_at s place ≡ g
unfolding granted_bytes
granted-back g h p =
    let b = bytes-long 4 g.period in
    let period = part-number 4 g.period h.period (part_left 4 2 (bytes_of 4 g.period) (bytes_of 2 g.processor) b p) in
    let processor = part-number 2 g.processor h.processor (part_right 4 2 (bytes_of 4 g.period) (bytes_of 2 g.processor) b p) in
    λ i. record { period = period i; processor = processor i }

-- of rows whose bytes stand from a place on, each stands at its own
module _ {A : Type 0} (bytes : A → List ℕ) (none : A) (size : ℕ) (rows : List A) (long : (a : A) → length (bytes a) ≡ size) {s : List ℕ} {from : ℕ} where
  row-stands : (n i : ℕ) → i < n → Part s from (size * n) (rows_bytes bytes none rows n) → Part s (from + size * i) size (bytes (get_or rows i none))
  unfolding rows_bytes join_to
  row-stands zero i l p = absurd (omega arith)
  row-stands (suc n) i l p =
      let front = rows_bytes bytes none rows n in
      let last = bytes (get_or rows n none) in
      let q : Part s from (size * n + size) (front ++ last) = rw (mul-suc size n) at p in
      let fl = rows_long bytes none size rows long n in
      let below : i < n → Part s (from + size * i) size (bytes (get_or rows i none)) =
      λ h. row-stands n i h (part_left (size * n) size front last fl q) in
      by_le n i (λ h. let e : i ≡ n = omega arith in rw e (part_right (size * n) size front last fl q)) below

  -- and so the rows are read as they were
  rows_back : (rest : List A) (row_at : List ℕ → ℕ → A) (n : ℕ)
      → ((i place : ℕ) → Part s place size (bytes (get_or rows i none)) → row_at s place ≡ get_or rows i none)
      → Part s from (size * n) (rows_bytes bytes none rows n) → rows_at rest size row_at s from n ≡ over rest (λ i. get_or rows i none) n
  rows_back rest row_at n one p =
      over-cong rest (λ i. row_at s (from + size * i)) (λ i. get_or rows i none) n (λ i l. one i (from + size * i) (row-stands n i l p))

-- of a section whose bytes stand at a place, the count is read there, and the rows after it
module _ {A : Type 0} (bytes : A → List ℕ) (none : A) (size : ℕ) (long : (a : A) → length (bytes a) ≡ size) (rows : List A) (n : ℕ)
    {s : List ℕ} {place : ℕ} (p : Part s place (2 + size * n) (bytes_of 2 n ++ rows_bytes bytes none rows n)) where
  count-back : n < limit 2 → u16_at s place ≡ n
  count-back few = part-number 2 n few (part_left 2 (size * n) (bytes_of 2 n) (rows_bytes bytes none rows n) (bytes-long 2 n) p)

  section-back : (rest : List A) (row_at : List ℕ → ℕ → A)
      → ((i place : ℕ) → Part s place size (bytes (get_or rows i none)) → row_at s place ≡ get_or rows i none)
      → rows_at rest size row_at s (place + 2) n ≡ over rest (λ i. get_or rows i none) n
  section-back rest row_at one =
      rows_back bytes none size rows long rest row_at n one (part_right 2 (size * n) (bytes_of 2 n) (rows_bytes bytes none rows n) (bytes-long 2 n) p)

-- the sections of a written sheet
module _ (x : Sheet) (s : List ℕ) (p : Part s 0 (length_of x) (encode x)) where
  task-section : List ℕ
  task-section = bytes_of 2 x.table.n ++ tasks_bytes x.table.rows x.table.n

  result-section : List ℕ
  result-section = bytes_of 2 x.results.n ++ results_bytes x.results.rows x.results.n

  -- how many bytes they take
  abbrev tasks-size : ℕ
  tasks-size = 2 + task_size * x.table.n

  abbrev results-size : ℕ
  results-size = 2 + granted_size * x.results.n

  settings-section : List ℕ
  settings-section = settings_bytes x.count x.settings

  all : Part s 0 (tasks_place x.count + (tasks-size + results-size)) (settings-section ++ (task-section ++ result-section))
  unfolding encode settings-section task-section result-section
  all = let size : length_of x ≡ tasks_place x.count + (tasks-size + results-size) = omega arith in rw size at p

  settings-section-long : length settings-section ≡ tasks_place x.count
  unfolding settings-section
  settings-section-long = settings-long x.count x.settings

  task-section-long : length task-section ≡ tasks-size
  unfolding task-section
  task-section-long = simp (length-append, bytes-long, tasks-long)

  settings-part : Part s settings_place (2 + setting_size * x.count) (bytes_of 2 x.count ++ numbers_bytes (numbers_of x.settings) x.count)
  unfolding settings-section settings_bytes
  settings-part =
      part_left (tasks_place x.count) (tasks-size + results-size) settings-section (task-section ++ result-section) settings-section-long all

  sections-part : Part s (tasks_place x.count) (tasks-size + results-size) (task-section ++ result-section)
  sections-part =
      let place : 0 + tasks_place x.count ≡ tasks_place x.count = omega arith in
      rw place
      at (part_right (tasks_place x.count) (tasks-size + results-size) settings-section (task-section ++ result-section) settings-section-long all)

  tasks-part : Part s (tasks_place x.count) tasks-size (bytes_of 2 x.table.n ++ tasks_bytes x.table.rows x.table.n)
  unfolding task-section
  tasks-part = part_left tasks-size results-size task-section result-section task-section-long sections-part

  results-part : Part s (results_place x.count x.table.n) results-size (bytes_of 2 x.results.n ++ results_bytes x.results.rows x.results.n)
  unfolding result-section
  results-part =
      let place : tasks_place x.count + tasks-size ≡ results_place x.count x.table.n = omega arith in
      rw place at (part_right tasks-size results-size task-section result-section task-section-long sections-part)

  -- as they are read
  module _ (h : SheetStorable x) (taken : settings_fit x.count ≡ true) (few : x.table.n ≤ most_tasks)
      (fit : results_fit x.results.n x.table.n ≡ true) where
    settings-counted : settings_count s ≡ x.count
    unfolding settings_count
    settings-counted =
        let most = settings-few x.count taken in
        count-back (bytes_of setting_size) 0 setting_size (bytes-long setting_size) (numbers_of x.settings) x.count settings-part (omega arith)

    tasks-counted : task_count s ≡ x.table.n
    unfolding task_count
    tasks-counted =
        ap (λ (c : ℕ). u16_at s (tasks_place c)) settings-counted
        ∙ count-back task_bytes no_task task_size task-long x.table.rows x.table.n tasks-part (omega arith)

    results-counted : result_count s ≡ x.results.n
    unfolding result_count
    results-counted =
        let less = fits-few x.results.n x.table.n fit in
        ap (λ (c : ℕ). u16_at s (results_place c (task_count s))) settings-counted
        ∙ (ap (λ (n : ℕ). u16_at s (results_place x.count n)) tasks-counted
        ∙ count-back granted_bytes no_granted granted_size granted-long x.results.rows x.results.n results-part (omega arith))

    numbers-read : numbers_in s ≡ over fill_ins (setting_in x) x.count
    numbers-read =
        ap (rows_at fill_ins setting_size u16_at s numbers_place) settings-counted
        ∙ section-back (bytes_of setting_size) 0 setting_size (bytes-long setting_size) (numbers_of x.settings) x.count settings-part fill_ins u16_at
        (λ i place q. part-number setting_size (setting_in x i) (h.settings i) q)

    tasks-read : tasks_in s ≡ padded_to no_task most_tasks (at x.table.rows) x.table.n
    tasks-read =
        ap (λ (c : ℕ). rows_at no_tasks task_size task_at s (records_place c) (task_count s)) settings-counted
        ∙ (ap (rows_at no_tasks task_size task_at s (records_place x.count)) tasks-counted
        ∙ section-back task_bytes no_task task_size task-long x.table.rows x.table.n tasks-part no_tasks task_at
        (λ i place q. task-back (at x.table.rows i) (h.tasks i) q))

    results-read : results_in s ≡ padded_to no_granted most_tasks (granted_in x) x.results.n
    results-read =
        ap (λ (c : ℕ). rows_at no_results granted_size granted_at s (granted_place c (task_count s)) (result_count s)) settings-counted
        ∙ (ap (λ (n : ℕ). rows_at no_results granted_size granted_at s (granted_place x.count n) (result_count s)) tasks-counted
        ∙ (ap (rows_at no_results granted_size granted_at s (granted_place x.count x.table.n)) results-counted
        ∙ section-back granted_bytes no_granted granted_size granted-long x.results.rows x.results.n results-part no_results granted_at
        (λ i place q. granted-back (granted_in x i) (h.results i) q)))

    sheet-read : sheet_in s ≡ canonical x
    unfolding sheet_in canonical
    sheet-read =
        λ i.
        record {
          count = settings-counted i;
          settings = settings_of (numbers-read i);
          table = record { rows = tasks-read i; n = tasks-counted i };
          results = record { rows = results-read i; n = results-counted i };
        }

    is_whole : length_of x ≡ length s → Whole s
    is_whole end =
        let c = settings-counted in
        let n = tasks-counted in
        let r = results-counted in
        record { settings = rw c taken; few = omega arith; fit = rw (r, n) fit; end = omega arith }

-- document 01's sheet, written and read, is its canonical form
pub forth : (x : Sheet) → SheetStorable x → settings_fit x.count ≡ true → x.table.n ≤ most_tasks → results_fit x.results.n x.table.n ≡ true
    → read_sheet (encode x) ≡ accepted (canonical x)
forth x h taken few fit =
    let p : Part (encode x) 0 (length_of x) (encode x) = rw (encode-long x) at (part-all (encode x)) in
    whole-accepted (encode x) (is_whole x (encode x) p h taken few fit (sym (encode-long x)))
    ∙ ap accepted (sheet-read x (encode x) p h taken few fit)
