-- What a call of the writer hands back, and the buffer after it.
-- Assumes nothing.
use Rattle.std.specs.Prelude.{ℕ, List, ◌≡◌, leb, length}
use Rattle.kinds.specs.declared.Sheet.{Sheet}
use Rattle.kinds.specs.declared.Refusal.TheVariants.{TooManyTasks, OutputTooShort, WrongSettingsCount, WrongResultCount}
use Rattle.kinds.specs.Limits.{most_tasks}
use Rattle.kinds.specs.Answer.{Handed, accepted, handed_count, demanded, after, Counted}
use Rattle.sheet.specs.Sections.{settings_fit, results_fit}
use Rattle.writer.specs.Encode.{encode, length_of}

-- document 01: "The writer gives 3, 10, 5 in that order."; Ask 2: "it gives 9 first"
unfoldable pub write_sheet : Sheet → ℕ → Handed ℕ
write_sheet x room =
    demanded 0 (settings_fit x.count) WrongSettingsCount
    (demanded 0 (leb x.table.n most_tasks) (TooManyTasks x.table.n)
    (demanded 0 (results_fit x.results.n x.table.n) (WrongResultCount 0)
    (demanded 0 (leb (length_of x) room) (OutputTooShort (length_of x)) (accepted (length_of x)))))

-- the buffer after: the sheet's bytes and then what stood there; where the call is refused, as it was
unfoldable pub after_write : Sheet → List ℕ → List ℕ
after_write x old = after (write_sheet x (length old)) (encode x) (length_of x) old

pub record Writes (x : Sheet) (old : List ℕ) (r : Counted) (new : List ℕ) : Type 0 where
  pub answer : handed_count r ≡ write_sheet x (length old)
  pub buffer : new ≡ after_write x old
