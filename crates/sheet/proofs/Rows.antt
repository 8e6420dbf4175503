-- Rows one after the other, as they are read and as they are stored.
-- Assumes nothing.
use Rattle.ground.proofs.Kit.{ℕ, suc, ◌+◌, ◌*◌, ◌≤◌, ◌<◌, List, ◌++◌, ◌≡◌, sym, add-one, mul-le-mul_left, arith, length, get_or, set, take, drop, length-take-le}
use native.Mathlib.Nat.{mul-zero, mul-suc}
use lib.Seq.{take-suc-set}
use Rattle.ground.specs.Folds.{list_to, join_to}
use Rattle.ground.proofs.Laid.{over-front}
use Rattle.field.specs.Field.{Got}
use Rattle.field.specs.Handover.{Put}
use Rattle.field.proofs.Stores.{put-none, put_then}
use Rattle.sheet.specs.Rows.{rows_bytes, rows_at, rows_in}

-- where a row ends that is one of n
pub row-end : (size i n : ℕ) → i < n → size * i + size ≤ size * n
row-end size i n h =
    let m : size * suc i ≡ size * i + size = mul-suc size i in
    let e : size * suc i ≤ size * n = mul-le-mul_left size h in
    omega arith

pub row_next : (size i : ℕ) → size * (i + 1) ≡ size * i + size
row_next size i = rw (add-one i) (mul-suc size i)

module _ {A : Type 0} (size : ℕ) (row_at : List ℕ → ℕ → A) (s : List ℕ) (from : ℕ) where
  pub read-row : (rows : List A) (row : A) (i at : ℕ) → i < length rows → take i rows ≡ rows_in size row_at s from i → at ≡ from + size * i
      → row ≡ row_at s at → take (i + 1) (set rows i row) ≡ rows_in size row_at s from (i + 1)
  unfolding list_to
  read-row rows row i at h e a r = rw (add-one i, take-suc-set rows i row h, e, r, a)

module _ {A : Type 0} (bytes : A → List ℕ) (none : A) (size : ℕ) (rows : List A) where
  pub put-no-row : (out : List ℕ) (from : ℕ) → Put out from (size * 0) (rows_bytes bytes none rows 0) from out
  unfolding rows_bytes join_to
  put-no-row out from = rw (mul-zero size) (put-none out from)

  pub put-row : {out mid new : List ℕ} {from at next : ℕ} (i : ℕ) (row : A) → row ≡ get_or rows i none
      → Put out from (size * i) (rows_bytes bytes none rows i) at mid → Put mid at size (bytes row) next new
      → Put out from (size * (i + 1)) (rows_bytes bytes none rows (i + 1)) next new
  unfolding rows_bytes join_to
  put-row i row e p q = rw (add-one i) (rw (mul-suc size i) (put_then p (rw e at q)))

-- rows read into the front of others, from the place where they stand, as many as they are
module _ {A : Type 0} (rest : List A) (size : ℕ) (row_at : List ℕ → ℕ → A) (s : List ℕ) {first from c n : ℕ} (place : first ≡ from) (count : c ≡ n)
    (few : c ≤ length rest) where
  pub rows-short : length s < first + size * length (take c rest) → length s < from + size * n
  rows-short short = rw (length-take-le c rest few, place, count) at short

  pub rows-read : {rows : List A} {next : ℕ}
      → Got s first (size * length (take c rest)) (λ t at. rows_in size row_at t at (length (take c rest))) rows next
      → Got s from (size * n) (λ t at. rows_at rest size row_at t at n) (rows ++ drop c rest) next
  rows-read {rows} {next} g =
      let h : Got s from (size * n) (λ t at. rows_in size row_at t at n) rows next = rw (length-take-le c rest few, place, count) at g in
      record {
        within = h.within;
        is = rw (count, h.is) (sym (over-front rest (λ i. row_at s (from + size * i)) n (rw count at few)));
        next-is = h.next-is;
      }
