-- Document 01: "The reader gives 8, 9, 3, 10, 11, whichever it meets first from the left; a count is judged as soon as its two bytes are there.": its
-- checks, with the sentence of each number, from the left.
-- Assumes nothing.
use Rattle.std.specs.Prelude.{ℕ, not, List, [], ◌∷◌, ltb, length}
use Rattle.kinds.specs.declared.Refusal.TheVariants.{TooManyTasks, SheetEnds, WrongSettingsCount, WrongResultCount, BytesAfterLast}
use Rattle.kinds.specs.Limits.{most_tasks}
use Rattle.kinds.specs.Chain.{Check, ◌when◌}
use Rattle.sheet.specs.Sections.{numbers_place, tasks_place, records_place, results_place, granted_place, settings_fit, results_fit}
use Rattle.sheet.specs.Reading.{settings_count, task_count, result_count, end_of}

-- "the sheet ends before or inside a field that is due", four times: a count or what it counts; in between, each count
abbrev pub reader_chain : List ℕ → List Check
reader_chain s =
    let c = settings_count s in
    let n = task_count s in
    SheetEnds (length s) when ltb (length s) numbers_place
    ∷ WrongSettingsCount when not (settings_fit c)
    ∷ SheetEnds (length s) when ltb (length s) (records_place c)
    ∷ TooManyTasks (tasks_place c) when ltb most_tasks n
    ∷ SheetEnds (length s) when ltb (length s) (granted_place c n)
    ∷ WrongResultCount (results_place c n) when not (results_fit (result_count s) n)
    ∷ SheetEnds (length s) when ltb (length s) (end_of s)
    ∷ BytesAfterLast (end_of s) when ltb (end_of s) (length s)
    ∷ []
