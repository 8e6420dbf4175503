-- The springs from which the index is worked out: that they give the table's after a join (`joined-index`) and after a leave (`left-index`).
-- Assumes nothing.
use Rattle.ground.proofs.Kit.{ℕ, ◌-◌, ◌≤◌, ◌<◌, List, ◌≡◌, sym, ◌∙◌, ap, arith}
use Rattle.kinds.specs.declared.Task.{Task}
use Rattle.kinds.specs.declared.Index.{Index}
use Rattle.kinds.specs.Limits.{most_tasks}
use Rattle.kinds.specs.Task.{at, Good}
use Rattle.share.specs.Table.{first_bad, priced_rows}
use Rattle.share.proofs.Tables.{all-good}
use Rattle.springs.specs.Spring.{spring_of}
use Rattle.springs.specs.declared.Springs.{Springs}
use Rattle.springs.specs.Handover.{Sprung}
use Rattle.order.specs.Gone.{left_from}
use Rattle.order.specs.Index.{index_by, index_under}
use Rattle.order.specs.Handover.{spring_left, elastic_in, step_in, Indexable}
use Rattle.order.proofs.Gone.{from-before, from_low}
use Rattle.order.proofs.Indexes.{sprung-indexable, sprung-index}
use Rattle.keep.specs.Keep.{left_rows}
use Rattle.keep.proofs.Rows.{left-priced}

-- the springs of n records give the index
module _ (w : ℕ) (rows : List Task) (n : ℕ) (s : Springs) (sprung : Sprung (priced_rows w rows n) n s) (few : n ≤ most_tasks) where
  -- of m records that stay
  module _ (after : List Task) (gone m : ℕ) (there : (i : ℕ) → i < m → left_from gone i < n)
      (stays : (i : ℕ) → i < m → at (priced_rows w after m) i ≡ at (priced_rows w rows n) (left_from gone i)) where
    springs : (i : ℕ) → i < m → spring_left s gone i ≡ spring_of (at (priced_rows w after m) i)
    springs i l = sprung.springs (left_from gone i) (omega (arith, there i l)) ∙ ap spring_of (sym (stays i l))

    index : (x : Index) → x ≡ index_by (elastic_in s gone) (step_in s gone) m → x ≡ index_under w after m
    index x e = e ∙ sprung-index (priced_rows w after m) gone m s springs

    -- where all of the n are good
    module _ (q : ℕ) (none : n ≤ first_bad w q rows n) where
      good : (i : ℕ) → i < m → Good (at (priced_rows w after m) i)
      good i l = rw (stays i l) (all-good w q rows n none (left_from gone i) (there i l))

      indexable : m ≤ most_tasks → (gone < m → m < most_tasks) → Indexable s gone m
      indexable most room = sprung-indexable (priced_rows w after m) gone m s springs most room good

  -- of all of them, where none has gone
  there-all : (i : ℕ) → i < n → left_from n i < n
  there-all i l = omega (arith, from-before n i l)

  stay_all : (i : ℕ) → i < n → at (priced_rows w rows n) i ≡ at (priced_rows w rows n) (left_from n i)
  stay_all i l = ap (at (priced_rows w rows n)) (from-before n i l)

  pub joined-index : (x : Index) → x ≡ index_by (elastic_in s n) (step_in s n) n → x ≡ index_under w rows n
  joined-index = index rows n n there-all stay_all

  pub joined-indexable : (q : ℕ) → n ≤ first_bad w q rows n → Indexable s n n
  joined-indexable q none = indexable rows n n there-all stay_all q none few (λ h. absurd (omega arith))

  -- of those that stay once one has left
  module _ (place : ℕ) where
    there-left : (i : ℕ) → i < n - 1 → left_from place i < n
    there-left i l = from_low place i n l

    pub left-index : (x : Index) → x ≡ index_by (elastic_in s place) (step_in s place) (n - 1) → x ≡ index_under w (left_rows rows n place) (n - 1)
    left-index = index (left_rows rows n place) place (n - 1) there-left (left-priced rows n place few w)

    pub left-indexable : (q : ℕ) → n ≤ first_bad w q rows n → Indexable s place (n - 1)
    left-indexable q none =
        indexable (left_rows rows n place) place (n - 1) there-left (left-priced rows n place few w) q none (omega arith) (λ h. omega arith)
