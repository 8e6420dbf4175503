-- "Given exactly when", of the writer: `writer-exactly`; the numbers that it gives are `writer-numbers`.
-- Assumes nothing.
use Rattle.ground.proofs.Kit.{ℕ, [], ◌∷◌, ◌≡◌, refl}
use Rattle.kinds.specs.declared.Sheet.{Sheet}
use Rattle.kinds.specs.Limits.{most_tasks}
use Rattle.kinds.specs.Chain.{first_by, handed_by, Exactly, numbers_given}
use Rattle.kinds.proofs.Chains.{exactly, not-most}
use Rattle.writer.specs.Encode.{length_of}
use Rattle.writer.specs.Writing.{write_sheet}
use Rattle.writer.specs.Chain.{writer_chain}

module _ (x : Sheet) (room : ℕ) where
  -- the writer is its chain
  writer-chain : write_sheet x room ≡ handed_by 0 (length_of x) (writer_chain x room)
  unfolding write_sheet first_by
  writer-chain = rw (← not-most x.table.n most_tasks, ← not-most (length_of x) room)

  -- 9, 3, 10 and 5 are given exactly when their sentences hold, the earlier first
  pub writer-exactly : Exactly (writer_chain x room) 0 (length_of x) (write_sheet x room)
  writer-exactly = exactly (writer_chain x room) 0 (length_of x) (write_sheet x room) writer-chain

  -- "The writer gives 3, 10, 5 in that order", and 9 first
  pub writer-numbers : numbers_given (writer_chain x room) ≡ 9 ∷ 3 ∷ 10 ∷ 5 ∷ []
  writer-numbers = refl
