-- The rows that are reached: more with each step, by a step from a row to one that has a column that it wants, and no row else.
-- Assumes nothing.
use Rattle.ground.proofs.Kit.{ℕ, zero, suc, ◌<◌, Bool, true, false, not, ◌≡◌, refl, ◌∙◌, ap, ltb, eq-eqb}
use Rattle.ground.specs.Choice.{both}
use Rattle.ground.proofs.Cases.{by_bool, both_true}
use Rattle.ground.proofs.Folds.{any-has}
use Rattle.ground.proofs.Tests.{any-finds}
use Rattle.whole_ticks.specs.Cells.{Parts, Cells}
use Rattle.whole_ticks.specs.Reach.{wants, holds, reach}
use Rattle.whole_ticks.proofs.Choices.{both_hold, either-right}

-- the row and the column by which row x is reached in one step more
pub record By (parts : Parts) (cells : Cells) (r k x : ℕ) : Type 0 where
  pub row : ℕ
  pub column : ℕ
  pub a-row : row < parts.rows
  pub a-column : column < parts.columns
  pub reached : reach parts cells r k row ≡ true
  pub wanted : wants parts cells row column ≡ true
  pub held : cells x column ≡ true

module _ (parts : Parts) (r : ℕ) where
  -- in no steps a row is reached from itself
  pub reach-self : (cells : Cells) → reach parts cells r 0 r ≡ true
  unfolding reach
  reach-self cells = eq-eqb r r refl

  -- what is reached stays reached
  pub reach-grows : (cells : Cells) (k x : ℕ) → reach parts cells r k x ≡ true → reach parts cells r (suc k) x ≡ true
  unfolding reach
  reach-grows cells k x e = rw e

  -- a step
  pub reach_step : (cells : Cells) (k x : ℕ) → By parts cells r k x → reach parts cells r (suc k) x ≡ true
  unfolding reach
  reach_step cells k x by =
      either-right (reach parts cells r k x) _
      (any-has (λ y. both (reach parts cells r k y) (holds parts cells y x)) parts.rows by.row by.a-row
      (both_hold by.reached
      (any-has (λ t. both (wants parts cells by.row t) (cells x t)) parts.columns by.column by.a-column
      (both_hold by.wanted by.held))))

  -- and back
  pub reach-back : (cells : Cells) (k x : ℕ) → reach parts cells r (suc k) x ≡ true → reach parts cells r k x ≡ false → By parts cells r k x
  unfolding reach
  reach-back cells k x e f =
      let row = any-finds (λ y. both (reach parts cells r k y) (holds parts cells y x)) parts.rows (rw f at e) in
      let two = both_true _ _ row.2 in
      let column = any-finds (λ t. both (wants parts cells row.0 t) (cells x t)) parts.columns two.1 in
      let last = both_true _ _ column.2 in
      record {
        row = row.0;
        column = column.0;
        a-row = row.1;
        a-column = column.1;
        reached = two.0;
        wanted = last.0;
        held = last.1;
      }

  -- other cells, which are the same in each row that is reached
  pub reach-same : (cells others : Cells) (k : ℕ) → ((x : ℕ) → reach parts cells r k x ≡ true → (t : ℕ) → others x t ≡ cells x t)
      → (x : ℕ) → reach parts cells r k x ≡ true → reach parts others r k x ≡ true
  unfolding reach
  reach-same cells others zero h x e = e
  reach-same cells others (suc k) h x e =
      let before = reach-same cells others k (λ y f. h y (reach-grows cells k y f)) in
      by_bool (reach parts cells r k x)
      (λ f. reach-grows others k x (before x f))
      (λ f.
      let by = reach-back cells k x e f in
      reach_step others k x
      (record {
        row = by.row;
        column = by.column;
        a-row = by.a-row;
        a-column = by.a-column;
        reached = before by.row by.reached;
        wanted = ap (λ (b : Bool). both (ltb 0 (parts.part by.row by.column)) (not b))
            (h by.row (reach-grows cells k by.row by.reached) by.column) ∙ by.wanted;
        held = h x e by.column ∙ by.held;
      }))
