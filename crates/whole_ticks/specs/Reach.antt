-- The rows that could hand a column on to a row that lacks one.
-- Assumes nothing.
use Rattle.std.specs.Prelude.{ℕ, zero, suc, Bool, not, eqb, ltb}
use Rattle.ground.specs.Choice.{both, either}
use Rattle.ground.specs.Folds.{any_to}
use Rattle.whole_ticks.specs.Cells.{Parts, Cells}

-- row r could have column t, and has not
abbrev pub wants : Parts → Cells → ℕ → ℕ → Bool
wants parts cells r t = both (ltb 0 (parts.part r t)) (not (cells r t))

-- row x has a column that row r wants
abbrev pub holds : Parts → Cells → ℕ → ℕ → Bool
holds parts cells r x = any_to (λ t. both (wants parts cells r t) (cells x t)) parts.columns

-- the rows that are reached from row r in k steps, each of them from a row to one that has a column that it wants
unfoldable pub reach : Parts → Cells → ℕ → ℕ → ℕ → Bool
reach parts cells r zero x = eqb x r
reach parts cells r (suc k) x =
    either (reach parts cells r k x) (any_to (λ y. both (reach parts cells r k y) (holds parts cells y x)) parts.rows)
