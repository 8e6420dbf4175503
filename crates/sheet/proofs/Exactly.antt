-- "Given exactly when", of the reader: `reader-exactly`; the numbers that it gives, from the left, are `reader-numbers`.
-- Assumes nothing.
use Rattle.ground.proofs.Kit.{ℕ, List, [], ◌∷◌, ◌≡◌, refl, length}
use Rattle.kinds.specs.Limits.{most_tasks}
use Rattle.kinds.specs.Chain.{first_by, handed_by, Exactly, numbers_given}
use Rattle.kinds.proofs.Chains.{exactly, not-most}
use Rattle.sheet.specs.Sections.{numbers_place, records_place, granted_place}
use Rattle.sheet.specs.Reading.{no_sheet, settings_count, task_count, end_of, sheet_in, read_rows, read_sheet}
use Rattle.sheet.specs.Chain.{reader_chain}

module _ (s : List ℕ) where
  -- the reader is its chain
  pub reader-chain : read_sheet s ≡ handed_by no_sheet (sheet_in s) (reader_chain s)
  unfolding read_sheet read_rows first_by
  reader-chain =
      let c = settings_count s in
      let n = task_count s in
      rw (
        ← not-most numbers_place (length s),
        ← not-most (records_place c) (length s),
        ← not-most n most_tasks,
        ← not-most (granted_place c n) (length s),
        ← not-most (end_of s) (length s),
        ← not-most (length s) (end_of s),
      )

  -- 8, 9, 3, 10 and 11 are given exactly when their sentences hold, the first from the left
  pub reader-exactly : Exactly (reader_chain s) no_sheet (sheet_in s) (read_sheet s)
  reader-exactly = exactly (reader_chain s) no_sheet (sheet_in s) (read_sheet s) reader-chain

  -- "8, 9, 3, 10, 11, whichever it meets first from the left"
  pub reader-numbers : numbers_given (reader_chain s) ≡ 8 ∷ 9 ∷ 8 ∷ 3 ∷ 8 ∷ 10 ∷ 8 ∷ 11 ∷ []
  reader-numbers = refl
