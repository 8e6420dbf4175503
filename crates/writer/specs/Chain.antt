-- Document 01: "The writer gives 3, 10, 5 in that order.", and Ask 2: "it gives 9 first": its checks, with the sentence of each number.
-- Assumes nothing.
use Rattle.std.specs.Prelude.{ℕ, not, List, [], ◌∷◌, ltb}
use Rattle.kinds.specs.declared.Sheet.{Sheet}
use Rattle.kinds.specs.declared.Refusal.TheVariants.{TooManyTasks, OutputTooShort, WrongSettingsCount, WrongResultCount}
use Rattle.kinds.specs.Limits.{most_tasks}
use Rattle.kinds.specs.Chain.{Check, ◌when◌}
use Rattle.sheet.specs.Sections.{settings_fit, results_fit}
use Rattle.writer.specs.Encode.{length_of}

-- a settings count that is not 2 to 5; "more than 32 tasks"; "result count is neither 0 nor the task count", at 0; "fewer .. bytes .. than needed"
abbrev pub writer_chain : Sheet → ℕ → List Check
writer_chain x room =
    WrongSettingsCount when not (settings_fit x.count)
    ∷ TooManyTasks x.table.n when ltb most_tasks x.table.n
    ∷ WrongResultCount 0 when not (results_fit x.results.n x.table.n)
    ∷ OutputTooShort (length_of x) when ltb room (length_of x)
    ∷ []
