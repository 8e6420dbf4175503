-- What document 01 says of full compression and of the first bad record, and the walk over a table that finds it.
-- Assumes nothing.
use Rattle.ground.proofs.Kit.{ℕ, ◌+◌, ◌*◌, ◌≤◌, ◌<◌, true, false, not, List, ◌≡◌, ap, arith}
use Rattle.ground.specs.First.{IsFirst}
use Rattle.ground.proofs.Cases.{by_bool, true-false}
use Rattle.ground.proofs.First.{first-is, first_cong}
use Rattle.ground.proofs.Folds.{le-max-to, max-to-le}
use Rattle.ground.proofs.Buffer.{list-in, list-cong}
use Rattle.kinds.specs.declared.Task.{Task}
use Rattle.kinds.specs.Task.{no_task, at, priced, Good, OnNotch, is_good}
use Rattle.kinds.proofs.Records.{good-is, notch-is}
use Rattle.share.specs.Share.{saturation_at}
use Rattle.share.specs.Table.{full_compression, first_bad, priced_rows}
use Rattle.share.proofs.Tasks.{saturation-most}

-- K is no less than any saturation step
pub saturation-within : (rows : List Task) (n i : ℕ) → i < n → saturation_at (at rows i) ≤ full_compression rows n
unfolding full_compression
saturation-within rows n i l = le-max-to (λ j. saturation_at (at rows j)) n i l

-- and no more than any bound of them all
pub full-within : (rows : List Task) (n b : ℕ) → ((i : ℕ) → i < n → saturation_at (at rows i) ≤ b) → full_compression rows n ≤ b
unfolding full_compression
full-within rows n b h = max-to-le (λ i. saturation_at (at rows i)) n b h

-- document 01: "K is never above 999,999."
pub full-most : (rows : List Task) (n : ℕ) → ((i : ℕ) → i < n → Good (at rows i)) → full_compression rows n ≤ 999999
full-most rows n g = full-within rows n 999999 (λ i l. omega (arith, saturation-most (at rows i) (g i l)))

-- the records with their swaps paid for
pub priced-at : (w : ℕ) (rows : List Task) (n i : ℕ) → i < n → at (priced_rows w rows n) i ≡ priced w (at rows i)
unfolding priced_rows
priced-at w rows n i l = list-in no_task (λ j. priced w (at rows j)) n i l

-- they depend on the first n records only
pub priced-same : (w : ℕ) (xs ys : List Task) (n : ℕ) → ((i : ℕ) → i < n → at xs i ≡ at ys i) → priced_rows w xs n ≡ priced_rows w ys n
unfolding priced_rows
priced-same w xs ys n same =
    list-cong (λ i. priced w (at xs i)) (λ i. priced w (at ys i)) n (λ i l. ap (priced w) (same i l))

-- where a swap costs nothing, they are as they stand
pub priced-free : (rows : List Task) (n i : ℕ) → i < n → at (priced_rows 0 rows n) i ≡ at rows i
priced-free rows n i l = let e : (at rows i).c + 2 * 0 ≡ (at rows i).c = omega arith in rw (priced-at 0 rows n i l, e)

-- the first bad record in words: those before it are good, and it is not
pub first-bad-is : (w q : ℕ) (rows : List Task) (n : ℕ) → IsFirst (λ i. not (is_good w q (at rows i))) n (first_bad w q rows n)
unfolding first_bad
first-bad-is w q rows n = first-is (λ i. not (is_good w q (at rows i))) n

-- each record before it is good once its swaps are paid for, and stands on notches
module _ (w q : ℕ) (rows : List Task) (n : ℕ) where
  module _ (i : ℕ) (l : i < first_bad w q rows n) where
    within : i < n
    within = omega (arith, (first-bad-is w q rows n).last)

    not-bad : is_good w q (at rows i) ≡ true
    not-bad =
        let e : not (is_good w q (at rows i)) ≡ false = (first-bad-is w q rows n).before i l in
        by_bool (is_good w q (at rows i)) (λ g. g) (λ g. true-false (rw g) e)

    pub good-before : Good (at (priced_rows w rows n) i)
    good-before = rw (priced-at w rows n i within) (good-is w q (at rows i) not-bad)

    pub on-before : 1 ≤ q → OnNotch q (at (priced_rows w rows n) i)
    on-before some = rw (priced-at w rows n i within) (notch-is w q (at rows i) some not-bad)

  -- where there is none, all are
  module _ (none : n ≤ first_bad w q rows n) where
    pub all-good : (i : ℕ) → i < n → Good (at (priced_rows w rows n) i)
    all-good i l = good-before i (omega arith)

    pub all-on : 1 ≤ q → (i : ℕ) → i < n → OnNotch q (at (priced_rows w rows n) i)
    all-on some i l = on-before i (omega arith) some

-- it depends on the first n records only
pub bad-same : (w q : ℕ) (xs ys : List Task) (n : ℕ) → ((i : ℕ) → i < n → at xs i ≡ at ys i) → first_bad w q xs n ≡ first_bad w q ys n
unfolding first_bad
bad-same w q xs ys n same =
    first_cong (λ i. not (is_good w q (at xs i))) (λ i. not (is_good w q (at ys i))) n
    (λ i l. ap (λ (t : Task). not (is_good w q t)) (same i l))
