-- The head of a sheet, read section by section: what each way through `read_head` shows of the definition.
-- Assumes nothing.
use Rattle.ground.proofs.Kit.{ℕ, ◌+◌, ◌*◌, ◌≤◌, ◌<◌, Some, None, true, false, List, ◌++◌, ◌≡◌, sym, ◌∙◌, ap, arith, length, take, drop, length-take-le}
use Rattle.kinds.specs.declared.Settings.{Settings}
use Rattle.kinds.specs.declared.Refusal.TheVariants.{TooManyTasks, SheetEnds, WrongSettingsCount}
use Rattle.kinds.specs.Limits.{most_settings, most_tasks}
use Rattle.kinds.specs.Settings.{fill_ins, settings_of}
use Rattle.kinds.specs.Answer.{refused}
use Rattle.field.specs.Number.{u16_at}
use Rattle.field.specs.Field.{field16, Got}
use Rattle.field.proofs.Fields.{got, missed}
use Rattle.sheet.specs.Sections.{setting_size, settings_place, numbers_place, tasks_place, records_place, settings_fit}
use Rattle.sheet.specs.Rows.{rows_in}
use Rattle.sheet.specs.Reading.{no_sheet, settings_count, task_count, numbers_in, read_sheet}
use Rattle.sheet.specs.Handover.{Begins}
use Rattle.sheet.proofs.Rows.{rows-short, rows-read}
use Rattle.sheet.proofs.Stages as stages

-- the settings count was read
pub record SettingsCounted (s : List ℕ) (c first : ℕ) : Type 0 where
  pub c-is : c ≡ settings_count s
  pub first-is : first ≡ numbers_place
  pub within : numbers_place ≤ length s

-- and the settings after it
pub record SettingsRead (s : List ℕ) (c : ℕ) (numbers : List ℕ) (next : ℕ) : Type 0 where
  pub c-is : c ≡ settings_count s
  pub within : numbers_place ≤ length s
  pub taken : settings_fit (settings_count s) ≡ true
  pub rows_is : numbers ≡ numbers_in s
  pub next-is : next ≡ tasks_place (settings_count s)

-- and the task count
pub record HeadRead (s : List ℕ) (c : ℕ) (numbers : List ℕ) (next n : ℕ) : Type 0 where
  pub settings : SettingsRead s c numbers next
  pub n-is : n ≡ task_count s
  pub within : records_place (settings_count s) ≤ length s

module _ (s : List ℕ) {at : ℕ} (starts : at ≡ settings_place) where
  pub no-settings : None ≡ field16 s at → refused no_sheet (SheetEnds (length s)) ≡ read_sheet s
  no-settings e = let short = missed 2 u16_at s at e in stages.settings-missing s (omega arith)

  pub settings-counted : {number first c : ℕ} → Some (number, first) ≡ field16 s at → c ≡ number → SettingsCounted s c first
  unfolding settings_count
  settings-counted e k =
      let g = got 2 u16_at s at _ _ e in
      record { c-is = k ∙ (g.is ∙ ap (u16_at s) starts); first-is = omega arith; within = omega arith }

module _ {s : List ℕ} {c first : ℕ} (p : SettingsCounted s c first) where
  pub settings-wrong : settings_fit c ≡ false → refused no_sheet WrongSettingsCount ≡ read_sheet s
  settings-wrong f = stages.settings-wrong s p.within (ap settings_fit (sym p.c-is) ∙ f)

  pub settings-due : first ≤ length s
  settings-due = let h = p.first-is in let w = p.within in omega arith

  module _ (f : settings_fit c ≡ true) where
    few : c ≤ most_settings
    few = stages.settings-few c f

    pub room : length (take c fill_ins) ≡ c
    room = length-take-le c fill_ins few

    taken_is : settings_fit (settings_count s) ≡ true
    taken_is = ap settings_fit (sym p.c-is) ∙ f

    pub settings-end : length s < first + setting_size * length (take c fill_ins) → refused no_sheet (SheetEnds (length s)) ≡ read_sheet s
    settings-end short =
        let h = rows-short fill_ins setting_size u16_at s p.first-is p.c-is few short in
        stages.tasks-missing s p.within taken_is (omega arith)

    pub settings-read : {rows : List ℕ} {next : ℕ}
        → Got s first (setting_size * length (take c fill_ins)) (λ t at. rows_in setting_size u16_at t at (length (take c fill_ins))) rows next
        → SettingsRead s c (rows ++ drop c fill_ins) next
    settings-read g =
        let h = rows-read fill_ins setting_size u16_at s p.first-is p.c-is few g in
        record { c-is = p.c-is; within = p.within; taken = taken_is; rows_is = h.is; next-is = h.next-is }

module _ {s : List ℕ} {c : ℕ} {numbers : List ℕ} {next : ℕ} (p : SettingsRead s c numbers next) where
  pub count-end : None ≡ field16 s next → refused no_sheet (SheetEnds (length s)) ≡ read_sheet s
  count-end e =
      let short = missed 2 u16_at s next e in
      let h = p.next-is in
      stages.tasks-missing s p.within p.taken (omega arith)

  pub head_read : {number from n : ℕ} → Some (number, from) ≡ field16 s next → n ≡ number → HeadRead s c numbers next n
  unfolding task_count
  head_read e k =
      let g = got 2 u16_at s next _ _ e in
      let h = p.next-is in
      let w = g.within in
      record { settings = p; n-is = k ∙ (g.is ∙ ap (u16_at s) h); within = omega arith }

module _ {s : List ℕ} {c : ℕ} {numbers : List ℕ} {next n : ℕ} (p : HeadRead s c numbers next n) where
  pub many : most_tasks < n → refused no_sheet (TooManyTasks next) ≡ read_sheet s
  many h =
      let e = p.n-is in
      rw p.settings.next-is (stages.too_many s p.settings.within p.settings.taken p.within (omega arith))

  pub begun : {settings : Settings} → settings ≡ settings_of numbers → n ≤ most_tasks
      → Begins s (record { count = c; settings = settings; n = n }) (records_place c)
  begun e h =
      let k = p.n-is in
      record {
        count-is = p.settings.c-is;
        settings-few = rw p.settings.c-is (stages.settings-few (settings_count s) p.settings.taken);
        settings-is = e ∙ ap settings_of p.settings.rows_is;
        n-is = k;
        few = h;
        from_is = ap records_place p.settings.c-is;
        within = p.within;
        on = stages.head-whole s p.settings.within p.settings.taken p.within (omega arith);
      }
