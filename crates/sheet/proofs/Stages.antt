-- The stages of a reading, from the left: what the definition says at each.
-- Assumes nothing.
use Rattle.ground.proofs.Kit.{ℕ, ◌≤◌, ◌<◌, true, false, List, ◌≡◌, arith, eqb, leb, length, eqb-true, le-leb, lt-leb, leb-true}
use Rattle.ground.proofs.Cases.{by_bool, both_true}
use Rattle.kinds.specs.declared.Refusal.TheVariants.{TooManyTasks, SheetEnds, WrongSettingsCount, WrongResultCount, BytesAfterLast}
use Rattle.kinds.specs.Limits.{fewest_settings, most_settings, most_tasks}
use Rattle.kinds.specs.Answer.{accepted, refused}
use Rattle.sheet.specs.Sections.{numbers_place, tasks_place, records_place, results_place, granted_place, settings_fit, results_fit}
use Rattle.sheet.specs.Reading.{no_sheet, settings_count, task_count, result_count, end_of, sheet_in, read_rows, read_sheet}

-- no more results than tasks
pub fits-few : (r n : ℕ) → results_fit r n ≡ true → r ≤ n
unfolding results_fit
fits-few r n e =
    by_bool (eqb r 0) (λ t. omega (arith, eqb-true r 0 t)) (λ t. omega (arith, eqb-true r n (rw t at e)))

-- a settings count that is taken
pub settings-few : (c : ℕ) → settings_fit c ≡ true → c ≤ most_settings
unfolding settings_fit
settings-few c e = leb-true c most_settings (both_true (leb fewest_settings c) (leb c most_settings) e).1

-- the head
module _ (s : List ℕ) where
  pub settings-missing : length s < numbers_place → refused no_sheet (SheetEnds (length s)) ≡ read_sheet s
  unfolding read_sheet
  settings-missing a = rw (lt-leb numbers_place (length s) a)

  module _ (a : numbers_place ≤ length s) where
    pub settings-wrong : settings_fit (settings_count s) ≡ false → refused no_sheet WrongSettingsCount ≡ read_sheet s
    unfolding read_sheet
    settings-wrong b = rw (le-leb numbers_place (length s) a, b)

    module _ (b : settings_fit (settings_count s) ≡ true) where
      pub tasks-missing : length s < records_place (settings_count s) → refused no_sheet (SheetEnds (length s)) ≡ read_sheet s
      unfolding read_sheet
      tasks-missing d = rw (le-leb numbers_place (length s) a, b, lt-leb (records_place (settings_count s)) (length s) d)

      module _ (d : records_place (settings_count s) ≤ length s) where
        pub too_many : most_tasks < task_count s → refused no_sheet (TooManyTasks (tasks_place (settings_count s))) ≡ read_sheet s
        unfolding read_sheet
        too_many e =
            rw (le-leb numbers_place (length s) a, b, le-leb (records_place (settings_count s)) (length s) d, lt-leb (task_count s) most_tasks e)

        pub head-whole : task_count s ≤ most_tasks → read_sheet s ≡ read_rows s
        unfolding read_sheet
        head-whole e =
            rw (le-leb numbers_place (length s) a, b, le-leb (records_place (settings_count s)) (length s) d, le-leb (task_count s) most_tasks e)

-- the rows
module _ (s : List ℕ) where
  pub count-missing : length s < granted_place (settings_count s) (task_count s) → refused no_sheet (SheetEnds (length s)) ≡ read_rows s
  unfolding read_rows
  count-missing a = rw (lt-leb (granted_place (settings_count s) (task_count s)) (length s) a)

  module _ (a : granted_place (settings_count s) (task_count s) ≤ length s) where
    pub count-wrong : results_fit (result_count s) (task_count s) ≡ false
        → refused no_sheet (WrongResultCount (results_place (settings_count s) (task_count s))) ≡ read_rows s
    unfolding read_rows
    count-wrong b = rw (le-leb (granted_place (settings_count s) (task_count s)) (length s) a, b)

    module _ (b : results_fit (result_count s) (task_count s) ≡ true) where
      pub results-missing : length s < end_of s → refused no_sheet (SheetEnds (length s)) ≡ read_rows s
      unfolding read_rows
      results-missing d = rw (le-leb (granted_place (settings_count s) (task_count s)) (length s) a, b, lt-leb (end_of s) (length s) d)

      pub bytes_after : end_of s < length s → refused no_sheet (BytesAfterLast (end_of s)) ≡ read_rows s
      unfolding read_rows
      bytes_after d =
          rw (le-leb (granted_place (settings_count s) (task_count s)) (length s) a, b, le-leb (end_of s) (length s) (omega arith), lt-leb (length s) (end_of s) d)

      pub rows_whole : end_of s ≡ length s → accepted (sheet_in s) ≡ read_rows s
      unfolding read_rows
      rows_whole d =
          rw (
            le-leb (granted_place (settings_count s) (task_count s)) (length s) a,
            b,
            le-leb (end_of s) (length s) (omega arith),
            le-leb (length s) (end_of s) (omega arith),
          )
