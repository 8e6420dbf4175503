-- The records after a join and after a leave: which stand where, zeros past them, and which of them is the first bad one.
-- Assumes nothing.
use Rattle.ground.proofs.Kit.{ℕ, ◌+◌, ◌-◌, ◌≤◌, ◌<◌, true, false, not, List, ◌≡◌, refl, sym, ◌∙◌, ap, arith, length, set, length-replicate, lt-ltb, le-ltb}
use Rattle.ground.specs.Laid.{padded_to}
use Rattle.ground.proofs.Cases.{by_le}
use Rattle.ground.proofs.First.{first-unique, first-none}
use Rattle.ground.proofs.Laid.{over_none, over-more, over-cong, padded-to-long, padded-to-in, padded-to-out}
use Rattle.kinds.specs.declared.Task.{Task}
use Rattle.kinds.specs.Limits.{most_tasks}
use Rattle.kinds.specs.Task.{at, no_task, no_tasks, priced, is_good}
use Rattle.share.specs.Table.{first_bad, priced_rows}
use Rattle.share.proofs.Tables.{priced-at, first-bad-is}
use Rattle.order.specs.Gone.{left_from}
use Rattle.order.proofs.Gone.{from-before, from-after, from_low}
use Rattle.keep.specs.Keep.{joined_row, left_row, joined_rows, left_rows}

-- rows with zeros past them are their own first n, with zeros past them
padded-again : (f : ℕ → Task) (n : ℕ) → n ≤ most_tasks
    → padded_to no_task most_tasks f n ≡ padded_to no_task most_tasks (at (padded_to no_task most_tasks f n)) n
padded-again f n few =
    over-cong no_tasks f (at (padded_to no_task most_tasks f n)) n (λ i l. sym (padded-to-in no_task most_tasks f n i l few))

-- the walk that copies the records without one of them
pub record Copied (f : ℕ → Task) (n : ℕ) (rows : List Task) (i : ℕ) : Type 0 where
  pub at_most : i ≤ n
  pub is : rows ≡ padded_to no_task most_tasks f i
  pub long : length rows ≡ most_tasks

pub copied_none : (f : ℕ → Task) (n : ℕ) → Copied f n no_tasks 0
copied_none f n = record { at_most = omega arith; is = sym (over_none no_tasks f); long = length-replicate most_tasks no_task }

pub copied_more : (f : ℕ → Task) (n : ℕ) (rows : List Task) (i : ℕ) (t : Task) → Copied f n rows i → i < n → t ≡ f i → Copied f n (set rows i t) (i + 1)
copied_more f n rows i t w l e =
    let q : set rows i t ≡ padded_to no_task most_tasks f (i + 1) = rw (w.is, e) (sym (over-more no_tasks f i)) in
    record { at_most = omega arith; is = q; long = ap length q ∙ padded-to-long no_task most_tasks f (i + 1) }

module _ (rows : List Task) (n : ℕ) (t : Task) where
  last-is : joined_row rows n t n ≡ t
  last-is = let h : n ≤ n = omega arith in rw (le-ltb n n h)

  -- a task put after the records
  pub joined_is : set (padded_to no_task most_tasks (left_row rows n) n) n t ≡ joined_rows rows n t
  unfolding joined_rows
  joined_is =
      let e = over-cong no_tasks (left_row rows n) (joined_row rows n t) n (λ i l. rw (lt-ltb i n l)) in
      rw (e, over-more no_tasks (joined_row rows n t) n, last-is)

  module _ (few : n < most_tasks) where
    -- Ask 6: "A task joins at the end of the table"
    pub joined_keeps : (i : ℕ) → i < n → at (joined_rows rows n t) i ≡ at rows i
    unfolding joined_rows
    joined_keeps i l = padded-to-in no_task most_tasks (joined_row rows n t) (n + 1) i (omega arith) (omega arith) ∙ rw (lt-ltb i n l)

    pub joined-last : at (joined_rows rows n t) n ≡ t
    unfolding joined_rows
    joined-last = padded-to-in no_task most_tasks (joined_row rows n t) (n + 1) n (omega arith) (omega arith) ∙ last-is

    pub joined-past : (i : ℕ) → n < i → at (joined_rows rows n t) i ≡ no_task
    unfolding joined_rows
    joined-past i h = padded-to-out no_task most_tasks (joined_row rows n t) (n + 1) i (omega arith)

    pub joined-padded : joined_rows rows n t ≡ padded_to no_task most_tasks (at (joined_rows rows n t)) (n + 1)
    unfolding joined_rows
    joined-padded = padded-again (joined_row rows n t) (n + 1) (omega arith)

    -- "a bad record, in the table or (at the count) joining": the first bad one of the table where there is one
    module _ (w q : ℕ) where
      pub bad-in-table : first_bad w q rows n < n → first_bad w q (joined_rows rows n t) (n + 1) ≡ first_bad w q rows n
      bad-in-table h =
          let f = first-bad-is w q rows n in
          first-unique (λ i. not (is_good w q (at (joined_rows rows n t) i))) (n + 1) _ _ (first-bad-is w q (joined_rows rows n t) (n + 1))
          (record {
            last = omega arith;
            there = λ l. ap (λ (x : Task). not (is_good w q x)) (joined_keeps (first_bad w q rows n) h) ∙ f.there h;
            before = λ j l. ap (λ (x : Task). not (is_good w q x)) (joined_keeps j (omega arith)) ∙ f.before j l;
          })

      -- where all of the table are good, the joining one at the count, or none
      module _ (all : n ≤ first_bad w q rows n) where
        before-joining : (j : ℕ) → j < n → not (is_good w q (at (joined_rows rows n t) j)) ≡ false
        before-joining j l = ap (λ (x : Task). not (is_good w q x)) (joined_keeps j l) ∙ (first-bad-is w q rows n).before j (omega arith)

        pub bad-joining : is_good w q t ≡ false → first_bad w q (joined_rows rows n t) (n + 1) ≡ n
        bad-joining b =
            first-unique (λ i. not (is_good w q (at (joined_rows rows n t) i))) (n + 1) _ _ (first-bad-is w q (joined_rows rows n t) (n + 1))
            (record {
              last = omega arith;
              there = λ l. ap (λ (x : Task). not (is_good w q x)) joined-last ∙ ap not b;
              before = before-joining;
            })

        pub none-bad : is_good w q t ≡ true → first_bad w q (joined_rows rows n t) (n + 1) ≡ n + 1
        none-bad g =
            first-unique (λ i. not (is_good w q (at (joined_rows rows n t) i))) (n + 1) _ _ (first-bad-is w q (joined_rows rows n t) (n + 1))
            (record {
              last = omega arith;
              there = λ l. absurd (omega arith);
              before =
                  λ j l.
                  by_le n j
                  (λ h.
                  let e : j ≡ n = omega arith in
                  rw e (ap (λ (x : Task). not (is_good w q x)) joined-last ∙ ap not g))
                  (λ h. before-joining j h);
            })

module _ (rows : List Task) (n place : ℕ) (few : n ≤ most_tasks) where
  pub left_at : (i : ℕ) → i < n - 1 → at (left_rows rows n place) i ≡ at rows (left_from place i)
  unfolding left_rows
  left_at i l = padded-to-in no_task most_tasks (left_row rows place) (n - 1) i l (omega arith)

  -- Ask 6: "leaves from any place, and later records move down by one"
  pub left-before : (i : ℕ) → i < n - 1 → i < place → at (left_rows rows n place) i ≡ at rows i
  left-before i l h = left_at i l ∙ ap (at rows) (sym (from-before place i h))

  pub left_after : (i : ℕ) → i < n - 1 → place ≤ i → at (left_rows rows n place) i ≡ at rows (i + 1)
  left_after i l h = left_at i l ∙ ap (at rows) (sym (from-after place i h))

  pub left-past : (i : ℕ) → n - 1 ≤ i → at (left_rows rows n place) i ≡ no_task
  unfolding left_rows
  left-past i h = padded-to-out no_task most_tasks (left_row rows place) (n - 1) i h

  pub left-padded : left_rows rows n place ≡ padded_to no_task most_tasks (at (left_rows rows n place)) (n - 1)
  unfolding left_rows
  left-padded = padded-again (left_row rows place) (n - 1) (omega arith)

  -- those that stay cost what they cost
  pub left-priced : (w i : ℕ) → i < n - 1 → at (priced_rows w (left_rows rows n place) (n - 1)) i ≡ at (priced_rows w rows n) (left_from place i)
  left-priced w i l =
      priced-at w (left_rows rows n place) (n - 1) i l
      ∙ (ap (priced w) (left_at i l) ∙ sym (priced-at w rows n (left_from place i) (from_low place i n l)))

  -- and are as good as they were
  pub left-good : (w q : ℕ) → n ≤ first_bad w q rows n → n - 1 ≤ first_bad w q (left_rows rows n place) (n - 1)
  unfolding first_bad
  left-good w q all =
      omega (
        arith,
        first-none (λ i. not (is_good w q (at (left_rows rows n place) i))) (n - 1) (n - 1)
            (λ i l.
            ap (λ (x : Task). not (is_good w q x)) (left_at i l)
            ∙ (first-bad-is w q rows n).before (left_from place i) (omega (arith, from_low place i n l)))
            refl,
      )

-- what joined last and leaves again leaves the records that were there, with zeros past them
pub joined-left : (rows : List Task) (n : ℕ) (t : Task) → n < most_tasks
    → left_rows (joined_rows rows n t) (n + 1) n ≡ padded_to no_task most_tasks (at rows) n
unfolding left_rows
joined-left rows n t few =
    let e : n + 1 - 1 ≡ n = omega arith in
    rw (
      e,
      over-cong no_tasks (left_row (joined_rows rows n t) n) (at rows) n
          (λ i l. ap (at (joined_rows rows n t)) (sym (from-before n i l)) ∙ joined_keeps rows n t few i l),
    )
