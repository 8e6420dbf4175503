-- Stretching twice, of one task and of a table. No law needs a good record: once a share is at the least one it stays there, and until
-- then both stretches take away the same. `largest-stays` alone needs the least share to be no larger than the largest, as it is in a
-- good record.
-- The same is not claimed of periods: a period is rounded up from its share, so a plan that took the periods of step a for its shortest
-- ones would round twice and could grant a longer period than step a + b does. Periods are taken once, at the end.
-- Assumes nothing.
use Rattle.ground.proofs.Kit.{ℕ, ◌+◌, List, ◌≡◌, sym, ◌∙◌, ap, arith}
use Rattle.ground.proofs.Buffer.{list-cong}
use Rattle.kinds.specs.declared.Task.{Task}
use Rattle.kinds.specs.Task.{at, Good}
use Rattle.rule.specs.Rule.{share_of}
use Rattle.share.specs.Share.{largest_of, least_of, share_at}
use Rattle.share.specs.Table.{shares}
use Rattle.share.proofs.Tasks.{at_zero}
use Rattle.share.specs.Twice.{share_again, shares_once, shares_again}

-- on plain numbers
stretch-again : (hi lo e a b : ℕ) → share_of (share_of hi lo e a) lo e b ≡ share_of hi lo e (a + b)
stretch-again hi lo e a b = omega arith

-- of one task: a steps and then b more are a + b steps
pub again : (t : Task) (a b : ℕ) → share_again t a b ≡ share_at t (a + b)
unfolding share_again share_at
again t a b = stretch-again (largest_of t) (least_of t) t.e a b

-- the order is of no account
pub either_order : (t : Task) (a b : ℕ) → share_again t a b ≡ share_again t b a
either_order t a b = let e : a + b ≡ b + a = omega arith in again t a b ∙ (ap (share_at t) e ∙ sym (again t b a))

-- step 0 changes nothing, before or after
pub zero-before : (t : Task) (b : ℕ) → share_again t 0 b ≡ share_at t b
zero-before t b = let e : 0 + b ≡ b = omega arith in again t 0 b ∙ ap (share_at t) e

pub zero-after : (t : Task) (a : ℕ) → share_again t a 0 ≡ share_at t a
zero-after t a = let e : a + 0 ≡ a = omega arith in again t a 0 ∙ ap (share_at t) e

-- and by step 0 the largest share itself stays, in a good record
pub largest-stays : (t : Task) → Good t → share_at t 0 ≡ largest_of t
largest-stays t g = at_zero t g

-- of the whole table: the lists of shares are equal
module _ (rows : List Task) (n : ℕ) where
  pub table-again : (a b : ℕ) → shares_again rows n a b ≡ shares_once rows n (a + b)
  unfolding shares_again shares_once
  table-again a b = list-cong (λ i. share_again (at rows i) a b) (shares rows (a + b)) n (λ i l. again (at rows i) a b)

  pub table-either-order : (a b : ℕ) → shares_again rows n a b ≡ shares_again rows n b a
  unfolding shares_again
  table-either-order a b = list-cong (λ i. share_again (at rows i) a b) (λ i. share_again (at rows i) b a) n (λ i l. either_order (at rows i) a b)

  pub table-zero-before : (b : ℕ) → shares_again rows n 0 b ≡ shares_once rows n b
  unfolding shares_again shares_once
  table-zero-before b = list-cong (λ i. share_again (at rows i) 0 b) (shares rows b) n (λ i l. zero-before (at rows i) b)

  pub table-zero-after : (a : ℕ) → shares_again rows n a 0 ≡ shares_once rows n a
  unfolding shares_again shares_once
  table-zero-after a = list-cong (λ i. share_again (at rows i) a 0) (shares rows a) n (λ i l. zero-after (at rows i) a)
