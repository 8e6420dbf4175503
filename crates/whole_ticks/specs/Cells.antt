-- Rows that ask for columns, parts of columns that they could be given, and whole columns that they have.
-- Assumes nothing.
use Rattle.std.specs.Prelude.{ℕ, ◌*◌, ◌≤◌, ◌<◌, Bool, true, ◌≡◌, eqb}
use Rattle.ground.specs.Choice.{pick, bit, both}
use Rattle.ground.specs.Folds.{sum_to}

-- how many columns each row asks for, and the part of each column that it could be given, in parts of which `whole` make a column
pub record Parts : Type 0 where
  pub rows : ℕ
  pub columns : ℕ
  pub ask : ℕ → ℕ
  pub part : ℕ → ℕ → ℕ
  pub whole : ℕ
  -- how many rows may have the same column
  pub most : ℕ

-- no row is given more than the whole of a column, no column more often than it may be, and each row is given what it asks for
pub record Enough (parts : Parts) : Type 0 where
  pub some : 1 ≤ parts.whole
  pub one : (r : ℕ) → r < parts.rows → (t : ℕ) → t < parts.columns → parts.part r t ≤ parts.whole
  pub room : (t : ℕ) → t < parts.columns → sum_to (λ r. parts.part r t) parts.rows ≤ parts.most * parts.whole
  pub enough : (r : ℕ) → r < parts.rows → parts.ask r * parts.whole ≤ sum_to (parts.part r) parts.columns

-- whether row r has column t: `cells r t`
abbrev pub Cells : Type 0
Cells = ℕ → ℕ → Bool

-- how many columns row r has
unfoldable pub across : Cells → ℕ → ℕ → ℕ
across cells columns r = sum_to (λ t. bit (cells r t)) columns

-- how many rows have column t
unfoldable pub down : Cells → ℕ → ℕ → ℕ
down cells rows t = sum_to (λ r. bit (cells r t)) rows

-- a row has only columns of which it could be given a part, no more than it asks for, and no column is had more often than it may be
pub record Fits (parts : Parts) (cells : Cells) : Type 0 where
  pub inside : (r t : ℕ) → cells r t ≡ true → 1 ≤ parts.part r t
  pub asked : (r : ℕ) → r < parts.rows → across cells parts.columns r ≤ parts.ask r
  pub room : (t : ℕ) → t < parts.columns → down cells parts.rows t ≤ parts.most

-- each row has as many columns as it asks for
abbrev pub Full : Parts → Cells → Type 0
Full parts cells = (r : ℕ) → r < parts.rows → parts.ask r ≤ across cells parts.columns r

-- with one cell set
unfoldable pub put : Cells → ℕ → ℕ → Bool → Cells
put cells r t b x u = pick (both (eqb x r) (eqb u t)) b (cells x u)
