-- Document 01's whole case, worked out over the definition: the bytes of its answer; and settings written up to their count.
-- Assumes nothing.
use Rattle.ground.proofs.Kit.{[], ◌∷◌, ◌≡◌, refl}
use Rattle.ground.specs.Folds.{join_to}
use Rattle.kinds.specs.declared.Policy.TheVariants.{Pooled}
use Rattle.kinds.specs.declared.Settings.{Settings}
use Rattle.kinds.specs.Task.{task}
use Rattle.field.specs.Number.{bytes_of}
use Rattle.sheet.specs.Rows.{granted, task_bytes, granted_bytes, rows_bytes}
use Rattle.writer.specs.Encode.{settings_bytes, encode}

whole-case : encode
    (record {
      count = 2;
      settings = record { policy = Pooled; m = 1; swap = 0; notch = 1; edition = 1 };
      table = record { rows = task 6 10 20 1000 ∷ []; n = 1 };
      results = record { rows = granted 10 0 ∷ []; n = 1 };
    })
    ≡ 2 ∷ 0 ∷ 1 ∷ 0 ∷ 1 ∷ 0 ∷ 1 ∷ 0 ∷ 6 ∷ 0 ∷ 0 ∷ 0 ∷ 10 ∷ 0 ∷ 0 ∷ 0 ∷ 20 ∷ 0 ∷ 0 ∷ 0 ∷ 232 ∷ 3 ∷ 0 ∷ 0
    ∷ 1 ∷ 0 ∷ 10 ∷ 0 ∷ 0 ∷ 0 ∷ 0 ∷ 0 ∷ []
unfolding encode settings_bytes rows_bytes join_to task_bytes granted_bytes bytes_of
whole-case = refl

-- Ask 2: the writer "leaves out numbers past" the settings count
five : Settings
five = record { policy = Pooled; m = 1; swap = 7; notch = 5; edition = 2 }

two-of-five : settings_bytes 2 five ≡ 2 ∷ 0 ∷ 1 ∷ 0 ∷ 1 ∷ 0 ∷ []
unfolding five settings_bytes rows_bytes join_to bytes_of
two-of-five = refl

four-of-five : settings_bytes 4 five ≡ 4 ∷ 0 ∷ 1 ∷ 0 ∷ 1 ∷ 0 ∷ 7 ∷ 0 ∷ 5 ∷ 0 ∷ []
unfolding five settings_bytes rows_bytes join_to bytes_of
four-of-five = refl

all-five : settings_bytes 5 five ≡ 5 ∷ 0 ∷ 1 ∷ 0 ∷ 1 ∷ 0 ∷ 7 ∷ 0 ∷ 5 ∷ 0 ∷ 2 ∷ 0 ∷ []
unfolding five settings_bytes rows_bytes join_to bytes_of
all-five = refl
