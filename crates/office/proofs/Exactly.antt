-- "Given exactly when", of import and export: `import-exactly`, `export-exactly`; the numbers are `import-numbers` and `export-numbers`.
-- Assumes nothing.
use Rattle.ground.proofs.Kit.{ℕ, zero, suc, ◌+◌, ◌-◌, ◌≤◌, ◌<◌, Bool, true, false, List, [], ◌∷◌, ◌++◌, ◌≡◌, refl, ◌∙◌, ap, arith, ltb, length, length-append, Some, None, Ok, Err}
use Rattle.ground.proofs.Kit.{lt-ltb, le-ltb}
use Rattle.ground.specs.Choice.{pick}
use Rattle.ground.specs.First.{first_below}
use Rattle.ground.proofs.Cases.{by_le, below_next}
use Rattle.ground.proofs.First.{first-here, first-none}
use Rattle.kinds.specs.declared.Task.{Task}
use Rattle.kinds.specs.declared.Refusal.TheVariants.{TooManyTasks, OutputTooShort, BadLine}
use Rattle.kinds.specs.Limits.{most_tasks}
use Rattle.kinds.specs.Chain.{◌when◌, first_by, handed_by, Exactly, numbers_given}
use Rattle.kinds.proofs.Chains.{exactly}
use Rattle.office.specs.Text.{text_to}
use Rattle.office.specs.Reading.{Line, line_at, Reading, read_from, read_text, rows_of}
use Rattle.office.specs.Carrying.{carry_rows, import_handed, export_handed}
use Rattle.office.specs.Chain.{line_start, is_bad_line, first_bad_line, import_chain, export_chain}
use Rattle.office.proofs.Lines.{from_end, from-many, from-bad, from_more}

-- what the first bad line and the bytes after line 31 say of a reading
abbrev judged_as : List ℕ → Reading → Reading
judged_as s r =
    pick (ltb (first_bad_line s) most_tasks) (Err (BadLine (first_bad_line s)))
    (pick (ltb (line_start s most_tasks) (length s)) (Err (TooManyTasks most_tasks)) (Ok (rows_of r)))

module _ (s : List ℕ) where
  -- once a text has ended there is no further line
  start-ended : (i : ℕ) → length s ≤ line_start s i → line_start s (suc i) ≡ line_start s i
  unfolding line_start
  start-ended i h = rw (le-ltb (line_start s i) (length s) h)

  ended-more : (i more : ℕ) → length s ≤ line_start s i → length s ≤ line_start s (i + more)
  ended-more i zero h = let e : i + 0 ≡ i = omega arith in rw e h
  ended-more i (suc more) h =
      let before = ended-more i more h in
      let e : i + suc more ≡ suc (i + more) = omega arith in
      rw (e, start-ended (i + more) before) before

  ended-later : (i j : ℕ) → i ≤ j → length s ≤ line_start s i → length s ≤ line_start s j
  ended-later i j l h = let e : i + (j - i) ≡ j = omega arith in rw e at (ended-more i (j - i) h)

  not_there : (i : ℕ) → length s ≤ line_start s i → is_bad_line s i ≡ false
  not_there i h = rw (le-ltb (line_start s i) (length s) h)

  -- the line after a good one
  module _ (i : ℕ) (there : line_start s i < length s) where
    start-more : (t : Task) (next : ℕ) → line_at s (line_start s i) ≡ Some (t, next) → line_start s (suc i) ≡ next
    unfolding line_start
    start-more t next e = rw (lt-ltb (line_start s i) (length s) there, e)

    good-not-bad : (t : Task) (next : ℕ) → line_at s (line_start s i) ≡ Some (t, next) → is_bad_line s i ≡ false
    good-not-bad t next e = rw (lt-ltb (line_start s i) (length s) there, e)

    bad-is-bad : line_at s (line_start s i) ≡ None → is_bad_line s i ≡ true
    bad-is-bad e = rw (lt-ltb (line_start s i) (length s) there, e)

  none-bad : ((j : ℕ) → j < most_tasks → is_bad_line s j ≡ false) → ltb (first_bad_line s) most_tasks ≡ false
  unfolding first_bad_line
  none-bad h =
      le-ltb (first_below (is_bad_line s) most_tasks) most_tasks (omega (arith, first-none (is_bad_line s) most_tasks most_tasks h refl))

  bad-here : (i : ℕ) → i < most_tasks → ((j : ℕ) → j < i → is_bad_line s j ≡ false) → is_bad_line s i ≡ true → i ≡ first_bad_line s
  unfolding first_bad_line
  bad-here i l h t = first-here (is_bad_line s) most_tasks i h l t

  -- from line i on, where none before it is bad
  from-line : (more i : ℕ) (rows : List Task) → i + more ≡ most_tasks → length rows ≡ i → ((j : ℕ) → j < i → is_bad_line s j ≡ false)
      → read_from more rows s (line_start s i) ≡ judged_as s (read_from more rows s (line_start s i))
  from-line zero i rows e long h =
      let full : i ≡ most_tasks = omega arith in
      let none = none-bad (λ j l. h j (omega arith)) in
      by_le (length s) (line_start s i)
      (λ l.
      let end = from_end rows s (line_start s i) 0 l in
      let last : ltb (line_start s most_tasks) (length s) ≡ false = rw (← full) (le-ltb (line_start s i) (length s) l) in
      rw (end, none, last))
      (λ l.
      let many = from-many rows s (line_start s i) l in
      let last : ltb (line_start s most_tasks) (length s) ≡ true = rw (← full) (lt-ltb (line_start s i) (length s) l) in
      rw (many, none, last))
  from-line (suc more) i rows e long h =
      by_le (length s) (line_start s i)
      (λ l.
      let end = from_end rows s (line_start s i) (suc more) l in
      let none = none-bad (λ j u. by_le i j (λ v. not_there j (ended-later i j v l)) (λ v. h j v)) in
      let last = le-ltb (line_start s most_tasks) (length s) (ended-later i most_tasks (omega arith) l) in
      rw (end, none, last))
      (λ l. by (line_at s (line_start s i)) refl l (λ t. from-line more (suc i) (rows ++ (t ∷ []))))
    where
      by : (x : Line) → line_at s (line_start s i) ≡ x → line_start s i < length s
          → ((t : Task) → suc i + more ≡ most_tasks → length (rows ++ (t ∷ [])) ≡ suc i → ((j : ℕ) → j < suc i → is_bad_line s j ≡ false)
          → read_from more (rows ++ (t ∷ [])) s (line_start s (suc i)) ≡ judged_as s (read_from more (rows ++ (t ∷ [])) s (line_start s (suc i))))
          → read_from (suc more) rows s (line_start s i) ≡ judged_as s (read_from (suc more) rows s (line_start s i))
      by None is l rest =
          let first = bad-here i (omega arith) h (bad-is-bad i l is) in
          let bad = from-bad rows s (line_start s i) more l is in
          rw (bad, ← first, lt-ltb i most_tasks (omega arith)) (ap (λ (k : ℕ). Err (BadLine k)) long)
      by (Some (t, next)) is l rest =
          let good = good-not-bad i l t next is in
          let more_of = from_more rows s (line_start s i) more l t next is in
          let starts = start-more i l t next is in
          let none : (j : ℕ) → j < suc i → is_bad_line s j ≡ false = λ j u. below_next (λ k. is_bad_line s k ≡ false) i h good j (omega arith) in
          let go = rest t (omega arith) (length-append rows (t ∷ []) ∙ omega (arith, long)) none in
          rw more_of (rw starts at go)

  -- a reading is refused by 16 at the first bad line, else by 3 where bytes come after line 31, and else it has rows
  reading-is : read_text s ≡ judged_as s (read_text s)
  unfolding read_text line_start
  reading-is = from-line most_tasks 0 [] refl refl (λ j l. absurd (omega arith))

-- what is carried over, by what is judged
carried : (r : Reading) (bad more : Bool) (first room : ℕ)
    → r ≡ pick bad (Err (BadLine first)) (pick more (Err (TooManyTasks most_tasks)) (Ok (rows_of r)))
    → carry_rows r room
    ≡ handed_by 0 (length (rows_of r))
    (BadLine first when bad ∷ TooManyTasks most_tasks when more ∷ OutputTooShort (length (rows_of r)) when ltb room (length (rows_of r)) ∷ [])
unfolding first_by
carried r true more first room e = rw e
carried r false true first room e = rw e
carried r false false first room e = rw e

-- 16, 3 and 5 of an import are given exactly when their sentences hold, the earlier first
pub import-exactly : (text : List ℕ) (room : ℕ) → Exactly (import_chain text room) 0 (length (rows_of (read_text text))) (import_handed text room)
unfolding import_handed
import-exactly text room =
    exactly (import_chain text room) 0 (length (rows_of (read_text text))) (carry_rows (read_text text) room)
    (carried (read_text text) (ltb (first_bad_line text) most_tasks) (ltb (line_start text most_tasks) (length text)) (first_bad_line text) room (reading-is text))

-- the numbers of an import, in their order
pub import-numbers : (text : List ℕ) (room : ℕ) → numbers_given (import_chain text room) ≡ 16 ∷ 3 ∷ 5 ∷ []
import-numbers text room = refl

-- 3 and 5 of an export are given exactly when their sentences hold, the earlier first
pub export-exactly : (rows : List Task) (n room : ℕ) → Exactly (export_chain rows n room) 0 (length (text_to rows n)) (export_handed rows n room)
unfolding export_handed first_by
export-exactly rows n room = exactly (export_chain rows n room) 0 (length (text_to rows n)) (export_handed rows n room) refl

-- the numbers of an export, in their order
pub export-numbers : (rows : List Task) (n room : ℕ) → numbers_given (export_chain rows n room) ≡ 3 ∷ 5 ∷ []
export-numbers rows n room = refl
