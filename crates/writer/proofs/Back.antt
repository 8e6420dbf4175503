-- What was read is written back byte for byte: `back`. Each field, row and section stands in the bytes that it was read from.
-- Assumes nothing.
use Rattle.ground.proofs.Kit.{ℕ, zero, suc, ◌+◌, ◌*◌, ◌≤◌, List, ◌≡◌, refl, mul-le-mul_left, arith, length}
use native.Mathlib.Nat.{mul-zero, mul-suc}
use Rattle.ground.specs.Folds.{join_to}
use Rattle.ground.proofs.Laid.{over-long, over-in}
use Rattle.kinds.specs.Task.{no_task, no_tasks}
use Rattle.kinds.specs.Settings.{fill_ins, settings_of}
use Rattle.kinds.proofs.Numbers.{numbers-back}
use Rattle.field.specs.Number.{Bytes, u16_at, bytes_of}
use Rattle.field.proofs.Parts.{Part, part_none, part_then, part-whole, number-stands}
use Rattle.sheet.specs.Sections.{setting_size, task_size, granted_size, settings_place, numbers_place, tasks_place, records_place, results_place, granted_place}
use Rattle.sheet.specs.Rows.{task_at, granted_at, no_granted, no_results, rows_at, task_bytes, granted_bytes, rows_bytes}
use Rattle.sheet.specs.Reading.{settings_count, task_count, result_count, end_of, numbers_in, sheet_in}
use Rattle.sheet.proofs.Whole.{Whole, few-settings, few-results}
use Rattle.writer.specs.Encode.{settings_bytes, encode}

-- rows that were read, where each stands in its own bytes
module _ {A : Type 0} (bytes : A → List ℕ) (none : A) (rest : List A) (size : ℕ) (row_at : List ℕ → ℕ → A) (s : List ℕ)
    (stands : (at : ℕ) → at + size ≤ length s → Part s at size (bytes (row_at s at))) (from N : ℕ) (few : N ≤ length rest)
    (within : from + size * N ≤ length s) where
  rows-stand : (n : ℕ) → n ≤ N → Part s from (size * n) (rows_bytes bytes none (rows_at rest size row_at s from N) n)
  unfolding rows_bytes join_to
  rows-stand zero h = rw (mul-zero size) (part_none s from (omega arith))
  rows-stand (suc n) h =
      let i : size * suc n ≤ size * N = mul-le-mul_left size h in
      let m : size * suc n ≡ size * n + size = mul-suc size n in
      let row = over-in rest (λ k. row_at s (from + size * k)) none N n h few in
      rw (m, row) (part_then refl (rows-stand n (omega arith)) (stands (from + size * n) (omega arith)))

module _ (s : List ℕ) (b : Bytes s) where
  task-stands : (at : ℕ) → at + task_size ≤ length s → Part s at task_size (task_bytes (task_at s at))
  unfolding task_bytes
  task-stands at h =
      part_then {n = 12} refl (number-stands 4 s at b (omega arith))
      (part_then {n = 8} (omega arith) (number-stands 4 s (at + 4) b (omega arith))
      (part_then {n = 4} (omega arith) (number-stands 4 s (at + 8) b (omega arith)) (number-stands 4 s (at + 12) b (omega arith))))

  granted-stands : (at : ℕ) → at + granted_size ≤ length s → Part s at granted_size (granted_bytes (granted_at s at))
  unfolding granted_bytes
  granted-stands at h = part_then refl (number-stands 4 s at b (omega arith)) (number-stands 2 s (at + 4) b (omega arith))

  -- each count stands in its two bytes
  tasks-counted : Whole s → Part s (tasks_place (settings_count s)) 2 (bytes_of 2 (task_count s))
  unfolding task_count
  tasks-counted w = let e = w.end in number-stands 2 s (tasks_place (settings_count s)) b (omega arith)

  results-counted : Whole s → Part s (results_place (settings_count s) (task_count s)) 2 (bytes_of 2 (result_count s))
  unfolding result_count
  results-counted w = let e = w.end in number-stands 2 s (results_place (settings_count s) (task_count s)) b (omega arith)

  settings-stand : Whole s → Part s settings_place (tasks_place (settings_count s)) (settings_bytes (settings_count s) (settings_of (numbers_in s)))
  unfolding settings_bytes settings_count
  settings-stand w =
      let e = w.end in
      let c = settings_count s in
      let few = few-settings w in
      let numbers =
      rows-stand (bytes_of setting_size) 0 fill_ins setting_size u16_at s (λ at h. number-stands 2 s at b h) numbers_place c few (omega arith) c (omega arith) in
      rw (numbers-back (numbers_in s) (over-long fill_ins _ c))
      (part_then refl (number-stands 2 s settings_place b (omega arith)) numbers)

  encoded : Whole s → Part s 0 (end_of s) (encode (sheet_in s))
  unfolding encode sheet_in
  encoded w =
      let e = w.end in
      let c = settings_count s in
      let n = task_count s in
      let r = result_count s in
      let few = few-results w in
      let tasks = rows-stand task_bytes no_task no_tasks task_size task_at s task-stands (records_place c) n w.few (omega arith) n (omega arith) in
      let results = rows-stand granted_bytes no_granted no_results granted_size granted_at s granted-stands (granted_place c n) r few (omega arith) r (omega arith) in
      let task-section = part_then refl (tasks-counted w) tasks in
      let result-section = part_then refl (results-counted w) results in
      let size : tasks_place c + ((2 + task_size * n) + (2 + granted_size * r)) ≡ end_of s = omega arith in
      rw (← size) (part_then (omega arith) (settings-stand w) (part_then (omega arith) task-section result-section))

  -- document 01's sheet, read and written, is the same bytes
  pub back : Whole s → encode (sheet_in s) ≡ s
  back w = let e = w.end in part-whole s (encode (sheet_in s)) (end_of s) (omega arith) (encoded w)
