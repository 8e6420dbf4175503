-- Readings worked out over the definition: counts are judged as soon as they are there, and document 01's whole case is a sheet.
-- Assumes nothing.
use Rattle.ground.proofs.Kit.{◌+◌, [], ◌∷◌, ◌≡◌, refl, replicate}
use Rattle.ground.specs.Folds.{list_to}
use Rattle.ground.specs.Laid.{over}
use Rattle.kinds.specs.declared.Policy.TheVariants.{Pooled}
use Rattle.kinds.specs.declared.Refusal.TheVariants.{TooManyTasks, SheetEnds, WrongSettingsCount, WrongResultCount, BytesAfterLast}
use Rattle.kinds.specs.Limits.{most_settings}
use Rattle.kinds.specs.Task.{task, no_task}
use Rattle.kinds.specs.Answer.{accepted, refused}
use Rattle.field.specs.Number.{number_at}
use Rattle.sheet.specs.Sections.{settings_fit, results_fit}
use Rattle.sheet.specs.Rows.{no_granted}
use Rattle.sheet.specs.Reading.{no_sheet, settings_count, task_count, result_count, sheet_in, read_rows, read_sheet}

ends-in-a-count : read_sheet (9 ∷ []) ≡ refused no_sheet (SheetEnds 1)
unfolding read_sheet
ends-in-a-count = refl

-- no setting is there yet
one-setting : read_sheet (1 ∷ 0 ∷ []) ≡ refused no_sheet WrongSettingsCount
unfolding read_sheet settings_count settings_fit number_at
one-setting = refl

too-many-settings : read_sheet ((most_settings + 1) ∷ 0 ∷ []) ≡ refused no_sheet WrongSettingsCount
unfolding read_sheet settings_count settings_fit number_at
too-many-settings = refl

-- the third setting is due, and then the task count
ends-in-a-setting : read_sheet (3 ∷ 0 ∷ 1 ∷ 0 ∷ 1 ∷ 0 ∷ 0 ∷ []) ≡ refused no_sheet (SheetEnds 7)
unfolding read_sheet settings_count settings_fit number_at
ends-in-a-setting = refl

-- no record is there yet
too_many : read_sheet (2 ∷ 0 ∷ 1 ∷ 0 ∷ 1 ∷ 0 ∷ 33 ∷ 0 ∷ []) ≡ refused no_sheet (TooManyTasks 6)
unfolding read_sheet settings_count task_count settings_fit number_at
too_many = refl

-- Ask 2: "the reader's place for 3 is 2 + 2s"
too-many-of-three : read_sheet (3 ∷ 0 ∷ 1 ∷ 0 ∷ 1 ∷ 0 ∷ 5 ∷ 0 ∷ 33 ∷ 0 ∷ []) ≡ refused no_sheet (TooManyTasks 8)
unfolding read_sheet settings_count task_count settings_fit number_at
too-many-of-three = refl

no-task-one-result : read_sheet (2 ∷ 0 ∷ 1 ∷ 0 ∷ 1 ∷ 0 ∷ 0 ∷ 0 ∷ 1 ∷ 0 ∷ []) ≡ refused no_sheet (WrongResultCount 8)
unfolding read_sheet read_rows settings_count task_count result_count settings_fit number_at results_fit
no-task-one-result = refl

one-byte-after : read_sheet (2 ∷ 0 ∷ 1 ∷ 0 ∷ 1 ∷ 0 ∷ 0 ∷ 0 ∷ 0 ∷ 0 ∷ 7 ∷ []) ≡ refused no_sheet (BytesAfterLast 10)
unfolding read_sheet read_rows settings_count task_count result_count settings_fit number_at results_fit
one-byte-after = refl

-- document 01, "Whole case"; Ask 2: "Sheets with settings count 2 are still read, with w = 0"
whole-case : read_sheet
    (2 ∷ 0 ∷ 1 ∷ 0 ∷ 1 ∷ 0 ∷ 1 ∷ 0 ∷ 6 ∷ 0 ∷ 0 ∷ 0 ∷ 10 ∷ 0 ∷ 0 ∷ 0 ∷ 20 ∷ 0 ∷ 0 ∷ 0 ∷ 232 ∷ 3 ∷ 0 ∷ 0 ∷ 0 ∷ 0 ∷ [])
    ≡ accepted
    (record {
      count = 2;
      settings = record { policy = Pooled; m = 1; swap = 0; notch = 1; edition = 1 };
      table = record { rows = task 6 10 20 1000 ∷ replicate 31 no_task; n = 1 };
      results = record { rows = replicate 32 no_granted; n = 0 };
    })
unfolding read_sheet read_rows settings_count task_count result_count settings_fit number_at results_fit sheet_in list_to over
whole-case = refl

-- with 3 q and the edition are filled in, with 4 the edition, and with 5 all are as they stand there
three-settings : read_sheet (3 ∷ 0 ∷ 1 ∷ 0 ∷ 2 ∷ 0 ∷ 7 ∷ 0 ∷ 0 ∷ 0 ∷ 0 ∷ 0 ∷ [])
    ≡ accepted
    (record {
      count = 3;
      settings = record { policy = Pooled; m = 2; swap = 7; notch = 1; edition = 1 };
      table = record { rows = replicate 32 no_task; n = 0 };
      results = record { rows = replicate 32 no_granted; n = 0 };
    })
unfolding read_sheet read_rows settings_count task_count result_count settings_fit number_at results_fit sheet_in list_to over
three-settings = refl

four-settings : read_sheet (4 ∷ 0 ∷ 1 ∷ 0 ∷ 2 ∷ 0 ∷ 7 ∷ 0 ∷ 5 ∷ 0 ∷ 0 ∷ 0 ∷ 0 ∷ 0 ∷ [])
    ≡ accepted
    (record {
      count = 4;
      settings = record { policy = Pooled; m = 2; swap = 7; notch = 5; edition = 1 };
      table = record { rows = replicate 32 no_task; n = 0 };
      results = record { rows = replicate 32 no_granted; n = 0 };
    })
unfolding read_sheet read_rows settings_count task_count result_count settings_fit number_at results_fit sheet_in list_to over
four-settings = refl

five-settings : read_sheet (5 ∷ 0 ∷ 1 ∷ 0 ∷ 2 ∷ 0 ∷ 7 ∷ 0 ∷ 5 ∷ 0 ∷ 2 ∷ 0 ∷ 0 ∷ 0 ∷ 0 ∷ 0 ∷ [])
    ≡ accepted
    (record {
      count = 5;
      settings = record { policy = Pooled; m = 2; swap = 7; notch = 5; edition = 2 };
      table = record { rows = replicate 32 no_task; n = 0 };
      results = record { rows = replicate 32 no_granted; n = 0 };
    })
unfolding read_sheet read_rows settings_count task_count result_count settings_fit number_at results_fit sheet_in list_to over
five-settings = refl
