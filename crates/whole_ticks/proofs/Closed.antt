-- Rows that reach no further and want no column with room could be given no more than they have, so that none of them lacks a column.
-- Assumes nothing.
use Rattle.ground.proofs.Kit.{ℕ, ◌*◌, ◌≤◌, ◌<◌, Bool, true, false, not, ◌≡◌, refl, ap, mul-le-mul_right, arith, ltb, lt-ltb}
use Rattle.ground.specs.Choice.{pick, bit, both}
use Rattle.ground.specs.Folds.{sum_to, any_to}
use Rattle.ground.proofs.Cases.{by_bool, by_le, both_true, true-false}
use Rattle.ground.proofs.Folds.{sum-le}
use Rattle.ground.proofs.Tests.{any-finds, any-fails}
use Rattle.ground.proofs.Sums.{sum_lt}
use Rattle.whole_ticks.specs.Cells.{Parts, Enough, Cells, across, down, Fits}
use Rattle.whole_ticks.specs.Reach.{wants}
use Rattle.whole_ticks.proofs.Choices.{both_hold, pick-most, bit_kept}
use Rattle.whole_ticks.proofs.Sums.{sum-flat, sum-times, sum-turned}

-- a column that one of these rows wants has no room, and every row that has it is one of them
abbrev pub Closed : Parts → Cells → (ℕ → Bool) → Type 0
Closed parts cells reached =
    (r : ℕ) → r < parts.rows → reached r ≡ true → (t : ℕ) → t < parts.columns → wants parts cells r t ≡ true
    → (parts.most ≤ down cells parts.rows t) × ((x : ℕ) → x < parts.rows → cells x t ≡ true → reached x ≡ true)

-- a part of a cell that is not wanted is no more than what is had of it
cell-le : (b c : Bool) (p whole : ℕ) → p ≤ whole → both b (both (ltb 0 p) (not c)) ≡ false → pick b p 0 ≤ whole * pick b (bit c) 0
cell-le false c p whole h e = omega arith
cell-le true true p whole h e = omega arith
cell-le true false p whole h e = by_le p 0 (λ l. omega arith) (λ l. true-false (both_hold (lt-ltb 0 p l) refl) e)

-- c times a sum that counts or does not: no more than another
pick-le : (b : Bool) (f g : ℕ → ℕ) (c n : ℕ) → c * sum_to g n ≤ sum_to f n → c * sum_to (λ t. pick b (g t) 0) n ≤ sum_to (λ t. pick b (f t) 0) n
pick-le true f g c n h = h
pick-le false f g c n h = omega (arith, ap (λ (x : ℕ). c * x) (sum-flat 0 n))

-- and less than another where it counts
pick_less : (b : Bool) (f g : ℕ → ℕ) (c n : ℕ) → b ≡ true → c * sum_to g n < sum_to f n
    → c * sum_to (λ t. pick b (g t) 0) n < sum_to (λ t. pick b (f t) 0) n
pick_less true f g c n e h = h
pick_less false f g c n e h = true-false e refl

module _ (parts : Parts) (enough : Enough parts) (cells : Cells) (reached : ℕ → Bool) (closed : Closed parts cells reached) where
  -- what a row that is reached could be given of a column, and what it has
  abbrev could : ℕ → ℕ → ℕ
  could r t = pick (reached r) (parts.part r t) 0

  abbrev has : ℕ → ℕ → ℕ
  has r t = pick (reached r) (bit (cells r t)) 0

  -- in each column it is no more, whether one of the rows wants the column or none does
  column-le : (t : ℕ) → t < parts.columns → sum_to (λ r. could r t) parts.rows ≤ parts.whole * sum_to (λ r. has r t) parts.rows
  unfolding down
  column-le t l =
      by_bool (any_to wanted parts.rows)
      (λ e.
      let found = any-finds wanted parts.rows e in
      let two = both_true (reached found.0) _ found.2 in
      let full = closed found.0 found.1 two.0 t l two.1 in
      let least = sum-le (λ r. bit (cells r t)) (λ r. has r t) parts.rows (λ r o. bit_kept (reached r) (cells r t) (full.1 r o)) in
      let most = sum-le (λ r. could r t) (λ r. parts.part r t) parts.rows (λ r o. pick-most (reached r) (parts.part r t)) in
      let times : parts.most * parts.whole ≤ sum_to (λ r. has r t) parts.rows * parts.whole =
      mul-le-mul_right parts.whole (omega (arith, least, full.0)) in
      omega (arith, most, enough.room t l, times))
      (λ e.
      let each = sum-le (λ r. could r t) (λ r. parts.whole * has r t) parts.rows (λ r o.
      cell-le (reached r) (cells r t) (parts.part r t) parts.whole (enough.one r o t l) (any-fails wanted parts.rows r e o)) in
      omega (arith, each, sum-times (λ r. has r t) parts.whole parts.rows))
    where
      wanted : ℕ → Bool
      wanted r = both (reached r) (wants parts cells r t)

  -- so in all
  all-le : sum_to (λ r. sum_to (could r) parts.columns) parts.rows ≤ sum_to (λ r. parts.whole * sum_to (has r) parts.columns) parts.rows
  all-le =
      let columns : ℕ → ℕ = λ t. sum_to (λ r. has r t) parts.rows in
      omega (
        arith,
        sum-le (λ t. sum_to (λ r. could r t) parts.rows) (λ t. parts.whole * columns t) parts.columns column-le,
        sum-times columns parts.whole parts.columns,
        sum-times (λ r. sum_to (has r) parts.columns) parts.whole parts.rows,
        sum-turned could parts.rows parts.columns,
        ap (λ (n : ℕ). parts.whole * n) (sum-turned has parts.rows parts.columns),
      )

  -- in each row it is no less, and more where the row lacks a column
  pub none-lacks : Fits parts cells → (r : ℕ) → r < parts.rows → reached r ≡ true → parts.ask r ≤ across cells parts.columns r
  unfolding across
  none-lacks fits r l e =
      by_le (parts.ask r) (across cells parts.columns r) (λ h. h) (λ h.
      let less : parts.whole * across cells parts.columns r < sum_to (parts.part r) parts.columns =
      omega (arith, mul-le-mul_right parts.whole h, enough.enough r l, enough.some) in
      let all = sum_lt (λ x. parts.whole * sum_to (has x) parts.columns) (λ x. sum_to (could x) parts.columns) parts.rows r
      (λ x o. pick-le (reached x) (parts.part x) (λ t. bit (cells x t)) parts.whole parts.columns
      (omega (arith, mul-le-mul_right parts.whole (fits.asked x o), enough.enough x o)))
      l
      (pick_less (reached r) (parts.part r) (λ t. bit (cells r t)) parts.whole parts.columns e less) in
      absurd (omega (arith, all, all-le)))
