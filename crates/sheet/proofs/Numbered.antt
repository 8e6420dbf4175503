-- Number 0 is handed back only with an acceptance, and place 0: `accepted-by-number`.
-- Assumes nothing.
use Rattle.ground.proofs.Kit.{ℕ, Bool, true, false, List, ◌≡◌, refl, arith, leb, length}
use Rattle.kinds.specs.declared.Sheet.{Sheet}
use Rattle.kinds.specs.declared.Refusal.{Refusal}
use Rattle.kinds.specs.declared.Refusal.TheVariants.{TooManyTasks, SheetEnds, WrongSettingsCount, WrongResultCount, BytesAfterLast}
use Rattle.kinds.specs.Limits.{most_tasks}
use Rattle.kinds.specs.Answer.{Handed, accepted, demanded}
use Rattle.kinds.proofs.Refusals.{refusal-numbered}
use Rattle.sheet.specs.Sections.{numbers_place, tasks_place, records_place, results_place, granted_place, settings_fit, results_fit}
use Rattle.sheet.specs.Reading.{no_sheet, settings_count, task_count, result_count, end_of, sheet_in, read_rows, read_sheet}

-- what is handed back with number 0 is an acceptance
abbrev Numbered : Handed Sheet → Type 0
Numbered h = h.number ≡ 0 → h ≡ accepted h.value

judged-numbered : (test : Bool) (refusal : Refusal) (rest : Handed Sheet) → Numbered rest → Numbered (demanded no_sheet test refusal rest)
judged-numbered true refusal rest n e = n e
judged-numbered false refusal rest n e = absurd (omega (arith, refusal-numbered refusal))

rows-numbered : (s : List ℕ) → Numbered (read_rows s)
unfolding read_rows
rows-numbered s =
    judged-numbered (leb (granted_place (settings_count s) (task_count s)) (length s)) (SheetEnds (length s)) _
    (judged-numbered (results_fit (result_count s) (task_count s)) (WrongResultCount (results_place (settings_count s) (task_count s))) _
    (judged-numbered (leb (end_of s) (length s)) (SheetEnds (length s)) _
    (judged-numbered (leb (length s) (end_of s)) (BytesAfterLast (end_of s)) (accepted (sheet_in s)) (λ e. refl))))

pub accepted-by-number : (s : List ℕ) → (read_sheet s).number ≡ 0 → read_sheet s ≡ accepted (read_sheet s).value
unfolding read_sheet
accepted-by-number s =
    judged-numbered (leb numbers_place (length s)) (SheetEnds (length s)) _
    (judged-numbered (settings_fit (settings_count s)) WrongSettingsCount _
    (judged-numbered (leb (records_place (settings_count s)) (length s)) (SheetEnds (length s)) _
    (judged-numbered (leb (task_count s) most_tasks) (TooManyTasks (tasks_place (settings_count s))) (read_rows s) (rows-numbered s))))
