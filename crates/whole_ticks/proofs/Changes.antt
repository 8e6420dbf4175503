-- One cell more: its row has one column more, and its column one row.
-- Assumes nothing.
use Rattle.ground.proofs.Kit.{ℕ, zero, suc, ◌+◌, ◌<◌, Bool, true, false, ◌≡◌, refl, sym, ◌∙◌, ap, arith, eqb, eq-eqb, ne_eqb}
use Rattle.ground.specs.Choice.{bit}
use Rattle.ground.specs.Folds.{sum_to}
use Rattle.ground.proofs.Cases.{by-eq, by_le}
use Rattle.ground.proofs.Folds.{sum-cong}
use Rattle.whole_ticks.specs.Cells.{Cells, across, down, put}

-- two tests that differ at one number only, at which one of them holds
sum-one-more : (f g : ℕ → Bool) (n k : ℕ) → k < n → f k ≡ false → g k ≡ true → ((i : ℕ) → (i ≡ k → ⊥) → g i ≡ f i)
    → sum_to (λ i. bit (g i)) n ≡ sum_to (λ i. bit (f i)) n + 1
unfolding sum_to
sum-one-more f g zero k l p q h = absurd (omega arith)
sum-one-more f g (suc n) k l p q h =
    by_le (suc k) n
    (λ o. omega (arith, sum-one-more f g n k o p q h, ap bit (h n (λ e. omega arith))))
    (λ o.
    let e : n ≡ k = omega arith in
    let same = sum-cong (λ i. bit (g i)) (λ i. bit (f i)) n (λ i l. ap bit (h i (λ z. omega arith))) in
    omega (arith, same, ap bit (ap f e ∙ p), ap bit (ap g e ∙ q)))

-- a cell is that of row r and column t, or another
by-cell : {X : Type 0} (x u r t : ℕ) → (x ≡ r → u ≡ t → X) → ((x ≡ r → u ≡ t → ⊥) → X) → X
by-cell x u r t here there = by-eq x r (λ p. by-eq u t (λ q. here p q) (λ q. there (λ _. q))) (λ p. there (λ z _. p z))

-- `more` is `cells` and the cell of row r and column t
pub record Adds (cells more : Cells) (r t : ℕ) : Type 0 where
  pub lacked : cells r t ≡ false
  pub has : more r t ≡ true
  pub other : (x u : ℕ) → (x ≡ r → u ≡ t → ⊥) → more x u ≡ cells x u

module _ (cells : Cells) (r t : ℕ) where
  -- what stands in the cell that is set
  put-here : (b : Bool) → put cells r t b r t ≡ b
  unfolding put
  put-here b = rw (eq-eqb r r refl, eq-eqb t t refl)

  -- and in the others
  put_other : (b : Bool) (x u : ℕ) → (x ≡ r → u ≡ t → ⊥) → put cells r t b x u ≡ cells x u
  unfolding put
  put_other b x u h = by-eq x r (λ e. rw (eq-eqb x r e, ne_eqb u t (h e))) (λ e. rw (ne_eqb x r e))

  -- to set a cell adds it
  pub put-adds : cells r t ≡ false → Adds cells (put cells r t true) r t
  put-adds e = record { lacked = e; has = put-here true; other = put_other true }

  -- and to clear one takes it away
  pub put-takes : cells r t ≡ true → Adds (put cells r t false) cells r t
  put-takes e = record { lacked = put-here false; has = e; other = λ x u h. sym (put_other false x u h) }

module _ {cells more : Cells} {r t : ℕ} (adds : Adds cells more r t) where
  -- the columns of a row
  pub adds-across : (columns : ℕ) → t < columns → (x : ℕ) → across more columns x ≡ across cells columns x + bit (eqb x r)
  unfolding across
  adds-across columns l x =
      by-eq x r
      (λ e. rw (e, eq-eqb r r refl) (sum-one-more (cells r) (more r) columns t l adds.lacked adds.has (λ u h. adds.other r u (λ _. h))))
      (λ e. rw (ne_eqb x r e)
      (omega (arith, sum-cong (λ u. bit (more x u)) (λ u. bit (cells x u)) columns (λ u o. ap bit (adds.other x u (λ z _. e z))))))

  -- the rows of a column
  pub adds-down : (rows : ℕ) → r < rows → (u : ℕ) → down more rows u ≡ down cells rows u + bit (eqb u t)
  unfolding down
  adds-down rows l u =
      by-eq u t
      (λ e. rw (e, eq-eqb t t refl)
      (sum-one-more (λ x. cells x t) (λ x. more x t) rows r l adds.lacked adds.has (λ x h. adds.other x t (λ z _. h z))))
      (λ e. rw (ne_eqb u t e)
      (omega (arith, sum-cong (λ x. bit (more x u)) (λ x. bit (cells x u)) rows (λ x o. ap bit (adds.other x u (λ _. e))))))

  -- a cell that is held was held before, or is the one that is added
  pub adds-held : (x u : ℕ) → more x u ≡ true → (P : ℕ → ℕ → Type 0) → (cells x u ≡ true → P x u) → P r t → P x u
  adds-held x u e P before new = by-cell x u r t (λ p q. rw (p, q) new) (λ h. before (sym (adds.other x u h) ∙ e))

  -- and what was held before is held
  pub adds-keeps : (x u : ℕ) → cells x u ≡ true → more x u ≡ true
  adds-keeps x u e = by-cell x u r t (λ p q. rw (p, q) adds.has) (λ h. adds.other x u h ∙ e)
