-- Where parts are enough, whole columns are: each row can have as many as it asks for.
-- Assumes nothing.
use Rattle.ground.proofs.Kit.{ℕ, zero, suc, ◌+◌, ◌≤◌, ◌<◌, Bool, true, false, not, ◌≡◌, refl, ap, arith, ltb, lt-ltb, ltb-true, not-true}
use Rattle.ground.specs.Choice.{bit, both}
use Rattle.ground.specs.Folds.{sum_to, any_to}
use Rattle.ground.proofs.Cases.{by_bool, by_le, both_true, true-false}
use Rattle.ground.proofs.Folds.{sum-most, any-has}
use Rattle.ground.proofs.Tests.{any-finds, any-fails, bit-most}
use Rattle.ground.proofs.Sums.{sum-gap, sum-larger, sum_lt}
use Rattle.whole_ticks.specs.Cells.{Parts, Enough, Cells, across, down, Fits, Full}
use Rattle.whole_ticks.specs.Reach.{wants, reach}
use Rattle.whole_ticks.proofs.Choices.{both_hold, bit-grows}
use Rattle.whole_ticks.proofs.Sums.{sum-flat}
use Rattle.whole_ticks.proofs.Reach.{reach-self, reach-grows, reach_step}
use Rattle.whole_ticks.proofs.Gain.{cells_in, More, gain}
use Rattle.whole_ticks.proofs.Closed.{Closed, none-lacks}

module _ (parts : Parts) (cells : Cells) (r : ℕ) where
  -- a row that is reached after one more step, and not before
  abbrev new : ℕ → ℕ → Bool
  new k x = both (reach parts cells r (suc k) x) (not (reach parts cells r k x))

  -- how many rows are reached in k steps
  far : ℕ → ℕ
  far k = sum_to (λ x. bit (reach parts cells r k x)) parts.rows

  -- each step reaches one more at least, until one reaches none: there are only so many rows
  last_step : (left k : ℕ) → parts.rows < far k + left → (n : ℕ) × (any_to (new n) parts.rows ≡ false)
  unfolding far
  last_step zero k h =
      absurd (omega (arith, sum-most (λ x. bit (reach parts cells r k x)) parts.rows 1 (λ x l. bit-most (reach parts cells r k x))))
  last_step (suc left) k h =
      by_bool (any_to (new k) parts.rows)
      (λ e.
      let found = any-finds (new k) parts.rows e in
      let two = both_true (reach parts cells r (suc k) found.0) _ found.2 in
      let more = sum_lt (λ x. bit (reach parts cells r k x)) (λ x. bit (reach parts cells r (suc k) x)) parts.rows found.0
      (λ x l. bit-grows (reach parts cells r k x) (reach parts cells r (suc k) x) (reach-grows parts r cells k x))
      found.1
      (omega (arith, ap bit two.0, ap bit (not-true (reach parts cells r k found.0) two.1))) in
      last_step left (suc k) (omega arith))
      (λ e. (k, e))

  -- the row itself is reached in any number of steps
  reach-own : (k : ℕ) → reach parts cells r k r ≡ true
  reach-own zero = reach-self parts r cells
  reach-own (suc k) = reach-grows parts r cells k r (reach-own k)

  -- row x wants column t, and that has room
  abbrev free : ℕ → ℕ → Bool
  free x t = both (wants parts cells x t) (ltb (down cells parts.rows t) parts.most)

  -- row x is reached in k steps, and wants some column that has room
  abbrev freed : ℕ → ℕ → Bool
  freed k x = both (reach parts cells r k x) (any_to (free x) parts.columns)

  -- where a step reaches no new row, and no row that is reached wants a column that has room, the rows that are reached are closed
  no-further : (k : ℕ) → any_to (new k) parts.rows ≡ false → any_to (freed k) parts.rows ≡ false → Closed parts cells (reach parts cells r k)
  no-further k e f y l h t o w = (
    by_le parts.most (down cells parts.rows t) (λ g. g) (λ g.
        true-false (both_hold h (any-has (free y) parts.columns t o (both_hold w (lt-ltb _ _ g)))) (any-fails (freed k) parts.rows y f l)),
    λ x q c.
        let next = reach_step parts r cells k x (record { row = y; column = t; a-row = l; a-column = o; reached = h; wanted = w; held = c }) in
        by_bool (reach parts cells r k x) (λ g. g) (λ g. true-false (both_hold next (ap not g)) (any-fails (new k) parts.rows x e q)),
  )

-- a row that lacks a column gets one more
one_more : (parts : Parts) → Enough parts → (cells : Cells) → Fits parts cells → (r : ℕ) → r < parts.rows
    → across cells parts.columns r < parts.ask r → More parts cells
one_more parts enough cells fits r row less =
    let last = last_step parts cells r (suc parts.rows) 0 (omega arith) in
    let k = last.0 in
    by_bool (any_to (freed parts cells r k) parts.rows)
    (λ e.
    let found = any-finds (freed parts cells r k) parts.rows e in
    let two = both_true (reach parts cells r k found.0) _ found.2 in
    let column = any-finds (free parts cells r found.0) parts.columns two.1 in
    let room = both_true (wants parts cells found.0 column.0) _ column.2 in
    gain parts k cells r found.0 column.0 fits less two.0
    (record { a-row = found.1; a-column = column.1; wanted = room.0; room = ltb-true _ _ room.1 }))
    (λ e. absurd
    (omega (
      arith,
      less,
      none-lacks parts enough cells (reach parts cells r k) (no-further parts cells r k last.1 e) fits r row (reach-own parts cells r k),
    )))

module _ (parts : Parts) (enough : Enough parts) where
  -- one after the other
  fill : (left : ℕ) (cells : Cells) → Fits parts cells → sum_to parts.ask parts.rows ≤ cells_in parts cells + left
      → (all : Cells) × Fits parts all × Full parts all
  unfolding cells_in
  fill zero cells fits h =
      (cells, fits, λ r l. omega (arith, sum-gap (across cells parts.columns) parts.ask parts.rows fits.asked r l))
  fill (suc left) cells fits h =
      by_le (sum_to parts.ask parts.rows) (cells_in parts cells)
      (λ l. fill left cells fits (omega arith))
      (λ l.
      let lacks = sum-larger (across cells parts.columns) parts.ask parts.rows l in
      let more = one_more parts enough cells fits lacks.0 lacks.1 lacks.2 in
      fill left more.0 more.1 (omega (arith, more.2)))

  -- from no cell on
  none-fits : Fits parts (λ r t. false)
  unfolding across down
  none-fits =
      record {
        inside = λ r t e. true-false e refl;
        asked = λ r l. omega (arith, sum-flat 0 parts.columns);
        room = λ t l. omega (arith, sum-flat 0 parts.rows);
      }

  -- whole columns for parts
  pub filled : (all : Cells) × Fits parts all × Full parts all
  filled = fill (sum_to parts.ask parts.rows) (λ r t. false) none-fits (omega arith)
