-- What an accepted reading says of the bytes. The last laws are those that other crates use: `accepted-whole` from what was handed back,
-- `whole-accepted` the other way.
-- Assumes nothing.
use Rattle.ground.proofs.Kit.{ℕ, ◌≤◌, true, List, ◌≡◌, sym, ◌∙◌, ap, arith, leb, length, leb-true, Ok}
use Rattle.kinds.specs.declared.Sheet.{Sheet}
use Rattle.kinds.specs.declared.Refusal.TheVariants.{TooManyTasks, SheetEnds, WrongSettingsCount, WrongResultCount, BytesAfterLast}
use Rattle.kinds.specs.Limits.{most_settings, most_tasks}
use Rattle.kinds.specs.Answer.{Handed, accepted}
use Rattle.kinds.proofs.Chain.{judged-passed}
use Rattle.sheet.specs.declared.Reading.{Reading}
use Rattle.sheet.specs.Sections.{numbers_place, tasks_place, records_place, results_place, granted_place, settings_fit, results_fit}
use Rattle.sheet.specs.Reading.{no_sheet, settings_count, task_count, result_count, end_of, sheet_in, read_rows, read_sheet, handed_reading}
use Rattle.sheet.proofs.Stages.{settings-few, fits-few, head-whole, rows_whole}

-- bytes that are a sheet
pub record Whole (s : List ℕ) : Type 0 where
  pub settings : settings_fit (settings_count s) ≡ true
  pub few : task_count s ≤ most_tasks
  pub fit : results_fit (result_count s) (task_count s) ≡ true
  pub end : end_of s ≡ length s

pub few-settings : {s : List ℕ} → Whole s → settings_count s ≤ most_settings
few-settings {s} w = settings-few (settings_count s) w.settings

pub few-results : {s : List ℕ} → Whole s → result_count s ≤ most_tasks
few-results {s} w = omega (arith, fits-few (result_count s) (task_count s) w.fit, w.few)

module _ (s : List ℕ) where
  rows-accepted : (x : Sheet) → read_rows s ≡ accepted x → (results_fit (result_count s) (task_count s) ≡ true) × ((end_of s ≡ length s) × (x ≡ sheet_in s))
  unfolding read_rows
  rows-accepted x e =
      let p₁ = judged-passed no_sheet (leb (granted_place (settings_count s) (task_count s)) (length s)) (SheetEnds (length s)) _ e in
      let p₂ = judged-passed no_sheet (results_fit (result_count s) (task_count s)) (WrongResultCount (results_place (settings_count s) (task_count s))) _ p₁.1 in
      let p₃ = judged-passed no_sheet (leb (end_of s) (length s)) (SheetEnds (length s)) _ p₂.1 in
      let p₄ = judged-passed no_sheet (leb (length s) (end_of s)) (BytesAfterLast (end_of s)) _ p₃.1 in
      let a = leb-true (end_of s) (length s) p₃.0 in
      let b = leb-true (length s) (end_of s) p₄.0 in
      (p₂.0, (omega arith, ap (λ (h : Handed Sheet). h.value) (sym p₄.1)))

  -- document 01 accepts a sheet only where its counts are right and it ends where they say; the sheet is then the one that stands there
  pub whole : (x : Sheet) → read_sheet s ≡ accepted x → Whole s × (x ≡ sheet_in s)
  unfolding read_sheet
  whole x e =
      let p₁ = judged-passed no_sheet (leb numbers_place (length s)) (SheetEnds (length s)) _ e in
      let p₂ = judged-passed no_sheet (settings_fit (settings_count s)) WrongSettingsCount _ p₁.1 in
      let p₃ = judged-passed no_sheet (leb (records_place (settings_count s)) (length s)) (SheetEnds (length s)) _ p₂.1 in
      let p₄ = judged-passed no_sheet (leb (task_count s) most_tasks) (TooManyTasks (tasks_place (settings_count s))) _ p₃.1 in
      let r = rows-accepted x p₄.1 in (
        record {
          settings = p₂.0;
          few = leb-true (task_count s) most_tasks p₄.0;
          fit = r.0;
          end = r.1.0;
        },
        r.1.1,
      )

  -- and all such sheets are accepted
  pub whole-accepted : Whole s → read_sheet s ≡ accepted (sheet_in s)
  whole-accepted w =
      let e = w.end in
      head-whole s (omega arith) w.settings (omega arith) w.few ∙ sym (rows_whole s (omega arith) w.fit e)

  -- the same of what the reader hands back
  pub accepted-whole : (r : Reading) → handed_reading r ≡ read_sheet s → r.verdict ≡ (Ok tt) → Whole s × (r.sheet ≡ sheet_in s)
  accepted-whole r e v = whole r.sheet (sym e ∙ rw v)
