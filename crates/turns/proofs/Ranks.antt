-- Of the jobs at which a test holds, those that fewer than m come before are m, or all of them where there are fewer: no two have the same turn.
-- Assumes nothing.
use Rattle.ground.proofs.Kit.{ℕ, zero, suc, ◌+◌, ◌*◌, ◌≤◌, ◌<◌, min, Bool, true, false, ◌≡◌, refl, ap, arith, eqb, ltb, eq-eqb, ne_eqb, eqb-true, lt-ltb}
use Rattle.ground.proofs.Kit.{le-ltb, ltb-true, ltb-false}
use Rattle.ground.specs.Choice.{bit, both}
use Rattle.ground.specs.Total.{total}
use Rattle.ground.proofs.Cases.{by_bool, by_le, by-eq, both_true}
use Rattle.ground.proofs.Totals.{total-le, total-line, term-le-total, total-one, total-none}
use Rattle.turns.specs.Ranked.{count_before, is_taken}

-- a turn before the next one is before this one or is this one
turn-next : (test : Bool) (x k : ℕ) → bit (both test (ltb x (suc k))) ≡ bit (both test (ltb x k)) + 1 * bit (both test (eqb x k))
turn-next false x k = refl
turn-next true x k =
    by-eq x k
    (λ e. rw (lt-ltb x (suc k) (omega arith), le-ltb x k (omega arith), eq-eqb x k e))
    (λ d. by_le x k
    (λ l. let less : x < k = by_le k x (λ o. absurd (d (omega arith))) (λ o. o) in rw (lt-ltb x (suc k) (omega arith), lt-ltb x k less, ne_eqb x k d))
    (λ l. rw (le-ltb x (suc k) l, le-ltb x k (omega arith), ne_eqb x k d)))

-- a test beside one that holds, and beside one that fails
bit-with : (b : Bool) → (bit (both b true) ≡ bit b) × (bit (both b false) ≡ 0)
bit-with true = (refl, refl)
bit-with false = (refl, refl)

-- whether the job whose turn is k is one of those that fewer than m come before
turn-taken : (test : Bool) (rank : ℕ → ℕ) (m x k : ℕ)
    → bit (both (both test (ltb (rank x) m)) (eqb x k)) ≡ bit (ltb (rank k) m) * bit (both test (eqb x k))
turn-taken false rank m x k = omega arith
turn-taken true rank m x k =
    by_bool (eqb x k)
    (λ e. rw (e, eqb-true x k e) (omega (arith, (bit-with (ltb (rank k) m)).0)))
    (λ e. rw e (omega (arith, (bit-with (ltb (rank x) m)).1)))

module _ (tasks jobs : ℕ) (turn : ℕ → ℕ → ℕ) (test : ℕ → ℕ → Bool) (m : ℕ) where
  -- how many come before a turn
  rank : ℕ → ℕ
  rank k = count_before tasks jobs turn test k

  -- the job, if any, whose turn is k
  here : ℕ → ℕ
  here k = total tasks jobs (λ i j. bit (both (test i j) (eqb (turn i j) k)))

  -- those that fewer than m come before
  abbrev taken : ℕ → ℕ → Bool
  taken = is_taken tasks jobs turn test m

  -- one more comes before the next turn where there is a job with this one
  rank-next : (k : ℕ) → rank (suc k) ≡ rank k + 1 * here k
  unfolding rank here
  rank-next k =
      total-line tasks jobs
      (λ i j. bit (both (test i j) (ltb (turn i j) (suc k))))
      (λ i j. bit (both (test i j) (ltb (turn i j) k)))
      (λ i j. bit (both (test i j) (eqb (turn i j) k))) 1
      (λ i l j o. turn-next (test i j) (turn i j) k)

  -- and one more that is taken, where fewer than m come before it
  taken_next : (k : ℕ) → count_before tasks jobs turn taken (suc k) ≡ count_before tasks jobs turn taken k + bit (ltb (rank k) m) * here k
  unfolding rank here
  taken_next k =
      total-line tasks jobs
      (λ i j. bit (both (taken i j) (ltb (turn i j) (suc k))))
      (λ i j. bit (both (taken i j) (ltb (turn i j) k)))
      (λ i j. bit (both (test i j) (eqb (turn i j) k))) (bit (ltb (count_before tasks jobs turn test k) m))
      (λ i l j o. omega (
        arith,
        turn-next (taken i j) (turn i j) k,
        turn-taken (test i j) (λ x. count_before tasks jobs turn test x) m (turn i j) k,
      ))

  -- none comes before the first turn
  none_before : (x : ℕ → ℕ → Bool) → count_before tasks jobs turn x 0 ≡ 0
  none_before x =
      total-none tasks jobs (λ i j. bit (both (x i j) (ltb (turn i j) 0)))
      (λ i j. rw (le-ltb (turn i j) 0 (omega arith)) (bit-with (x i j)).1)

  module _ (distinct : (i : ℕ) → i < tasks → (j : ℕ) → j < jobs → (a : ℕ) → a < tasks → (b : ℕ) → b < jobs
      → turn i j ≡ turn a b → (i ≡ a) × (j ≡ b)) where
    -- there is one such job at most
    here-one : (k : ℕ) → here k ≤ 1
    unfolding here
    here-one k =
        total-one tasks jobs (λ i j. both (test i j) (eqb (turn i j) k))
        (λ i l j o a p b q u v.
        let x = eqb-true (turn i j) k (both_true (test i j) (eqb (turn i j) k) u).1 in
        let y = eqb-true (turn a b) k (both_true (test a b) (eqb (turn a b) k) v).1 in
        distinct i l j o a p b q (omega arith))

    -- before any turn those taken are m, or all where there are fewer
    taken_is : (k : ℕ) → count_before tasks jobs turn taken k ≡ min m (rank k)
    unfolding rank
    taken_is zero = omega (arith, none_before taken, none_before test)
    taken_is (suc k) =
        by_bool (ltb (rank k) m)
        (λ e. omega (arith, taken_is k, taken_next k, rank-next k, here-one k, ap (λ (b : Bool). bit b * here k) e, ltb-true (rank k) m e))
        (λ e. omega (arith, taken_is k, taken_next k, rank-next k, ap (λ (b : Bool). bit b * here k) e, ltb-false (rank k) m e))

    -- a job that m come before has m of them taken
    pub taken-all : (k : ℕ) → m ≤ count_before tasks jobs turn test k → m ≤ count_before tasks jobs turn taken k
    unfolding rank
    taken-all k h = omega (arith, taken_is k)

    -- and at most m are taken
    pub taken-most : total tasks jobs (λ i j. bit (taken i j)) ≤ m
    taken-most =
        let last = suc (total tasks jobs turn) in
        omega (
          arith,
          taken_is last,
          total-le tasks jobs (λ i j. bit (taken i j)) (λ i j. bit (both (taken i j) (ltb (turn i j) last)))
              (λ i l j o. rw (lt-ltb (turn i j) last (omega (arith, term-le-total tasks jobs turn i l j o))) (omega (arith, (bit-with (taken i j)).0))),
        )
