-- Texts read and written by computation over the definitions, as one table under one claim. Assumes nothing.
use Rattle.ground.proofs.Kit.{ℕ, zero, suc, List, [], ◌∷◌, ◌++◌, ◌≡◌, refl, Ok, Err}
use Rattle.ground.specs.Folds.{join_to}
use Rattle.kinds.specs.declared.Task.{Task}
use Rattle.kinds.specs.declared.Refusal.TheVariants.{TooManyTasks, BadLine}
use Rattle.kinds.specs.Task.{task, no_task}
use Rattle.numeral.specs.Decimal.{decimal, digits_in}
use Rattle.numeral.specs.Scan.{digits, value_from, plain, number_at, numeral_at}
use Rattle.office.specs.Text.{number_then, line_of, text_of}
use Rattle.office.specs.Reading.{Reading, line_at, read_from, read_text}

record Case : Type 0 where
  text : List ℕ
  reading : Reading

abbrev zeros : List ℕ
zeros = 48 ∷ 44 ∷ 48 ∷ 44 ∷ 48 ∷ 44 ∷ 48 ∷ 10 ∷ []

abbrev times : ℕ → List ℕ → List ℕ
times zero text = []
times (suc n) text = text ++ times n text

abbrev no_tasks : ℕ → List Task
no_tasks zero = []
no_tasks (suc n) = no_task ∷ no_tasks n

abbrev cases : List Case
cases =
    -- "`6,10,20,1000` and the newline"
    (record { text = 54 ∷ 44 ∷ 49 ∷ 48 ∷ 44 ∷ 50 ∷ 48 ∷ 44 ∷ 49 ∷ 48 ∷ 48 ∷ 48 ∷ 10 ∷ []; reading = Ok (task 6 10 20 1000 ∷ []) })
    ∷  -- the empty text
    (record { text = []; reading = Ok [] })
    ∷  -- 4294967295,0,1,2 is read
    (record { text = 52 ∷ 50 ∷ 57 ∷ 52 ∷ 57 ∷ 54 ∷ 55 ∷ 50 ∷ 57 ∷ 53 ∷ 44 ∷ 48 ∷ 44 ∷ 49 ∷ 44 ∷ 50 ∷ 10 ∷ []; reading = Ok (task 4294967295 0 1 2 ∷ []) })
    ∷  -- 4294967296 in line 1
    (record { text = zeros ++ (52 ∷ 50 ∷ 57 ∷ 52 ∷ 57 ∷ 54 ∷ 55 ∷ 50 ∷ 57 ∷ 54 ∷ 44 ∷ 48 ∷ 44 ∷ 49 ∷ 44 ∷ 50 ∷ 10 ∷ []); reading = Err (BadLine 1) })
    ∷  -- 18446744073709551617 is no 1
    (record {
      text =
          49 ∷ 56 ∷ 52 ∷ 52 ∷ 54 ∷ 55 ∷ 52 ∷ 52 ∷ 48 ∷ 55 ∷
          51 ∷ 55 ∷ 48 ∷ 57 ∷ 53 ∷ 53 ∷ 49 ∷ 54 ∷ 49 ∷ 55 ∷ 44 ∷ 49 ∷ 44 ∷ 49 ∷ 44 ∷ 49 ∷ 10 ∷ [];
      reading = Err (BadLine 0);
    })
    ∷  -- 6,010,20,1000 has a leading zero
    (record { text = 54 ∷ 44 ∷ 48 ∷ 49 ∷ 48 ∷ 44 ∷ 50 ∷ 48 ∷ 44 ∷ 49 ∷ 48 ∷ 48 ∷ 48 ∷ 10 ∷ []; reading = Err (BadLine 0) })
    ∷  -- 00,0,0,0 too
    (record { text = 48 ∷ zeros; reading = Err (BadLine 0) })
    ∷  -- a last line without its newline
    (record { text = zeros ++ (49 ∷ 44 ∷ 50 ∷ 44 ∷ 51 ∷ 44 ∷ 52 ∷ []); reading = Err (BadLine 1) })
    ∷  -- a newline alone, also after a good line
    (record { text = 10 ∷ []; reading = Err (BadLine 0) })
    ∷ (record { text = zeros ++ (10 ∷ []); reading = Err (BadLine 1) })
    ∷  -- a carriage return, a fifth number, a space
    (record { text = 49 ∷ 44 ∷ 50 ∷ 44 ∷ 51 ∷ 44 ∷ 52 ∷ 13 ∷ 10 ∷ []; reading = Err (BadLine 0) })
    ∷ (record { text = 49 ∷ 44 ∷ 50 ∷ 44 ∷ 51 ∷ 44 ∷ 52 ∷ 44 ∷ 53 ∷ 10 ∷ []; reading = Err (BadLine 0) })
    ∷ (record { text = 49 ∷ 44 ∷ 32 ∷ 50 ∷ 44 ∷ 51 ∷ 44 ∷ 52 ∷ 10 ∷ []; reading = Err (BadLine 0) })
    ∷  -- 32 lines; then any byte; and a bad line before
    (record { text = times 32 zeros; reading = Ok (no_tasks 32) })
    ∷ (record { text = times 32 zeros ++ (120 ∷ []); reading = Err (TooManyTasks 32) })
    ∷ (record { text = times 31 zeros ++ (120 ∷ []); reading = Err (BadLine 31) })
    ∷ []

abbrev AllRead : List Case → Type 0
AllRead [] = Unit
AllRead (c ∷ cs) = (read_text c.text ≡ c.reading) × AllRead cs

pub all_read : AllRead cases
unfolding read_text read_from line_at numeral_at number_at digits value_from plain
all_read = (refl, (refl, (refl, (refl, (refl, (refl, (refl, (refl, (refl, (refl, (refl, (refl, (refl, (refl, (refl, (refl, tt))))))))))))))))

-- the text of one task
pub one_line : text_of (task 6 10 20 1000 ∷ []) ≡ 54 ∷ 44 ∷ 49 ∷ 48 ∷ 44 ∷ 50 ∷ 48 ∷ 44 ∷ 49 ∷ 48 ∷ 48 ∷ 48 ∷ 10 ∷ []
unfolding join_to line_of number_then decimal digits_in
one_line = refl
