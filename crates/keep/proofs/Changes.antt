-- The two changes: what each of their returns hands back, what Ask 6 says of an accepted and of a refused one, that a place freed can be
-- joined again, and that no second answer fits.
-- Assumes nothing.
use Rattle.ground.proofs.Kit.{ℕ, ◌+◌, ◌-◌, ◌≤◌, ◌<◌, Bool, true, false, List, ◌≡◌, refl, sym, ◌∙◌, ap, arith, eqb, leb, ltb, eq-eqb, ne_eqb, le-leb, lt-leb, Ok, Err}
use Rattle.ground.proofs.Kit.{leb-true, leb-false, lt-ltb, le-ltb, ltb-false}
use borrow.Author.Tests.{eqb-false}
use Rattle.ground.specs.Laid.{padded_to}
use Rattle.kinds.specs.declared.Task.{Task}
use Rattle.kinds.specs.declared.Table.{Table}
use Rattle.kinds.specs.declared.Index.{Index}
use Rattle.kinds.specs.declared.Refusal.{Refusal}
use Rattle.kinds.specs.declared.Refusal.TheVariants.{Misset, TooManyTasks, BadRecord, NoSuchRecord}
use Rattle.kinds.specs.Answer.{Handed, accepted, refused, check, handed_verdict, Verdict}
use Rattle.kinds.specs.Limits.{most_tasks}
use Rattle.kinds.specs.Refusal.{number_of}
use Rattle.kinds.specs.Task.{at, no_task, table, is_good}
use Rattle.kinds.proofs.Answers.{with-one}
use Rattle.kinds.proofs.Refusals.{refusal-numbered}
use Rattle.share.specs.Table.{first_bad}
use Rattle.admission.specs.Admission.{and_then}
use Rattle.admission.proofs.Chain.{unchecked, not-admitted, then-admitted}
use Rattle.order.specs.Index.{index_under}
use Rattle.keep.specs.declared.Kept.{Kept}
use Rattle.keep.specs.declared.Changed.{Changed}
use Rattle.keep.specs.Keep.{kept, fresh, joined_rows, left_rows, may_join, may_leave, changed, joined, left, handed_change}
use Rattle.keep.proofs.Rows.{joined-padded, left-padded, left-good, none-bad, joined-left}

-- a table and an index that are those of an accepted change
pub fresh-is : (w : ℕ) (rows : List Task) (n : ℕ) (after : Table) (index : Index) → after ≡ table rows n → index ≡ index_under w rows n
    → accepted (kept after index) ≡ accepted (fresh w rows n)
fresh-is w rows n after index e f = λ i. accepted (kept (e i) (f i))

-- the four returns of a join
module _ (w q : ℕ) (k : Kept) (t : Task) where
  pub join-zero : q ≡ 0 → refused k Misset ≡ joined w q k t
  unfolding joined may_join
  join-zero z = rw (eq-eqb q 0 z)

  module _ (some : q ≡ 0 → ⊥) where
    pub join-many : most_tasks ≤ k.table.n → refused k (TooManyTasks k.table.n) ≡ joined w q k t
    unfolding joined may_join
    join-many h = rw (ne_eqb q 0 some, le-leb most_tasks k.table.n h)

    module _ (few : k.table.n < most_tasks) (bad : ℕ) (is : bad ≡ first_bad w q (joined_rows k.table.rows k.table.n t) (k.table.n + 1)) where
      pub join-bad : bad ≤ k.table.n → refused k (BadRecord bad) ≡ joined w q k t
      unfolding joined may_join
      join-bad h =
          let l : bad < k.table.n + 1 = omega arith in
          rw (ne_eqb q 0 some, lt-leb most_tasks k.table.n few, ← is, lt-ltb bad (k.table.n + 1) l)

      pub join-made : k.table.n < bad → accepted (fresh w (joined_rows k.table.rows k.table.n t) (k.table.n + 1)) ≡ joined w q k t
      unfolding joined may_join
      join-made h =
          let l : k.table.n + 1 ≤ bad = omega arith in
          rw (ne_eqb q 0 some, lt-leb most_tasks k.table.n few, ← is, le-ltb bad (k.table.n + 1) l)

-- the five returns of a leave
module _ (w q : ℕ) (k : Kept) (place : ℕ) where
  pub leave-zero : q ≡ 0 → refused k Misset ≡ left w q k place
  unfolding left may_leave
  leave-zero z = rw (eq-eqb q 0 z)

  module _ (some : q ≡ 0 → ⊥) where
    pub leave-many : most_tasks < k.table.n → refused k (TooManyTasks k.table.n) ≡ left w q k place
    unfolding left may_leave
    leave-many h = rw (ne_eqb q 0 some, lt-ltb most_tasks k.table.n h)

    module _ (few : k.table.n ≤ most_tasks) (bad : ℕ) (is : bad ≡ first_bad w q k.table.rows k.table.n) where
      pub leave-bad : bad < k.table.n → refused k (BadRecord bad) ≡ left w q k place
      unfolding left may_leave
      leave-bad h = rw (ne_eqb q 0 some, le-ltb most_tasks k.table.n few, ← is, lt-ltb bad k.table.n h)

      module _ (all : k.table.n ≤ bad) where
        pub leave-missing : k.table.n ≤ place → refused k (NoSuchRecord place) ≡ left w q k place
        unfolding left may_leave
        leave-missing h =
            rw (ne_eqb q 0 some, le-ltb most_tasks k.table.n few, ← is, le-ltb bad k.table.n all, le-leb k.table.n place h)

        pub leave-made : place < k.table.n → accepted (fresh w (left_rows k.table.rows k.table.n place) (k.table.n - 1)) ≡ left w q k place
        unfolding left may_leave
        leave-made h =
            rw (ne_eqb q 0 some, le-ltb most_tasks k.table.n few, ← is, le-ltb bad k.table.n all, lt-leb k.table.n place h)

-- what an accepted join has checked
pub record Joining (w q : ℕ) (rows : List Task) (n : ℕ) (t : Task) : Type 0 where
  pub some : q ≡ 0 → ⊥
  pub few : n < most_tasks
  pub none-bad : n + 1 ≤ first_bad w q (joined_rows rows n t) (n + 1)

pub joining : (w q : ℕ) (rows : List Task) (n : ℕ) (t : Task) → may_join w q rows n t ≡ (Ok tt) → Joining w q rows n t
unfolding may_join
joining w q rows n t e =
    let a = unchecked _ _ _ e in
    let b = unchecked _ _ _ a.1 in
    record {
      some = eqb-false q 0 a.0;
      few = leb-false most_tasks n b.0;
      none-bad = ltb-false _ _ (unchecked _ _ _ b.1).0;
    }

-- what an accepted leave has checked
pub record Leaving (w q : ℕ) (rows : List Task) (n place : ℕ) : Type 0 where
  pub some : q ≡ 0 → ⊥
  pub few : n ≤ most_tasks
  pub none-bad : n ≤ first_bad w q rows n
  pub there : place < n

pub leaving : (w q : ℕ) (rows : List Task) (n place : ℕ) → may_leave w q rows n place ≡ (Ok tt) → Leaving w q rows n place
unfolding may_leave
leaving w q rows n place e =
    let a = unchecked _ _ _ e in
    let b = unchecked _ _ _ a.1 in
    let r = then-admitted _ _ b.1 in
    record {
      some = eqb-false q 0 a.0;
      few = ltb-false _ _ b.0;
      none-bad = ltb-false _ _ (unchecked _ _ _ r.0).0;
      there = leb-false n place (unchecked _ _ _ r.1).0;
    }

-- and what it has checked is enough
pub may-leave : (w q : ℕ) (rows : List Task) (n place : ℕ) → Leaving w q rows n place → may_leave w q rows n place ≡ (Ok tt)
unfolding may_leave
may-leave w q rows n place l =
    rw (
      ne_eqb q 0 l.some,
      le-ltb most_tasks n l.few,
      le-ltb (first_bad w q rows n) n l.none-bad,
      lt-leb n place l.there,
    )

-- a refusal that is another's number comes from further on in the chain
passed-by : (test : Bool) (r : Refusal) (rest : Verdict) (s : Refusal) → (number_of r ≡ number_of s → ⊥) → check test (Err r) rest ≡ Err s
    → (test ≡ false) × (rest ≡ Err s)
passed-by true r rest s d e = absurd (d (ap (λ (v : Verdict). (handed_verdict v).number) e))
passed-by false r rest s d e = (refl, e)

good-by : (test : Bool) (r : Refusal) (rest : Verdict) (s : Refusal) → (number_of r ≡ number_of s → ⊥)
    → and_then (check test (Err r) (Ok tt)) rest ≡ Err s → (test ≡ false) × (rest ≡ Err s)
good-by true r rest s d e = absurd (d (ap (λ (v : Verdict). (handed_verdict v).number) e))
good-by false r rest s d e = (refl, e)

refused-by : (test : Bool) (r s : Refusal) → ◌≡◌ {A = Verdict} (check test (Err r) (Ok tt)) (Err s) → test ≡ true
refused-by true r s e = refl
refused-by false r s e = not-admitted (Ok tt) e refl

-- "The lowest number comes first": where 12 is given, none of 2, 3 and 6 is, and the record is not there
pub record Missing (w q : ℕ) (rows : List Task) (n place : ℕ) : Type 0 where
  pub some : q ≡ 0 → ⊥
  pub few : n ≤ most_tasks
  pub none-bad : n ≤ first_bad w q rows n
  pub gone : n ≤ place

pub twelve-last : (w q : ℕ) (rows : List Task) (n place p : ℕ) → may_leave w q rows n place ≡ Err (NoSuchRecord p) → Missing w q rows n place
unfolding may_leave
twelve-last w q rows n place p e =
    let r = NoSuchRecord p in
    let a = passed-by (eqb q 0) Misset _ r (λ z. omega arith) e in
    let b = passed-by (ltb most_tasks n) (TooManyTasks n) _ r (λ z. omega arith) a.1 in
    let c = good-by (ltb (first_bad w q rows n) n) (BadRecord (first_bad w q rows n)) _ r (λ z. omega arith) b.1 in
    record {
      some = eqb-false q 0 a.0;
      few = ltb-false _ _ b.0;
      none-bad = ltb-false _ _ c.0;
      gone = leb-true n place (refused-by (leb n place) (NoSuchRecord place) r c.1);
    }

-- Ask 6: "a place freed by a leave can be joined again"
pub freed-joins : (w q : ℕ) (rows : List Task) (n place : ℕ) (t : Task) → may_leave w q rows n place ≡ (Ok tt) → is_good w q t ≡ true
    → may_join w q (left_rows rows n place) (n - 1) t ≡ (Ok tt)
unfolding may_join
freed-joins w q rows n place t e g =
    let l = leaving w q rows n place e in
    let free : n - 1 < most_tasks = omega (arith, l.few, l.there) in
    let all = left-good rows n place l.few w q l.none-bad in
    let b = none-bad (left_rows rows n place) (n - 1) t free w q all g in
    let h : n - 1 + 1 ≤ n - 1 + 1 = omega arith in
    rw (ne_eqb q 0 l.some, lt-leb most_tasks (n - 1) free, b, le-ltb (n - 1 + 1) (n - 1 + 1) h)

-- Ask 6: "with zeros past their ends after an accepted change", and "the index equals the one worked out afresh"
pub record Settled (w : ℕ) (k : Kept) : Type 0 where
  pub rows_are : k.table.rows ≡ padded_to no_task most_tasks (at k.table.rows) k.table.n
  pub index_is : k.index ≡ index_under w k.table.rows k.table.n

-- a task that has joined at the end and leaves again leaves what was kept
module _ (w q : ℕ) (k : Kept) (t : Task) (s : Settled w k) where
  leaves-again : Joining w q k.table.rows k.table.n t
      → left w q (fresh w (joined_rows k.table.rows k.table.n t) (k.table.n + 1)) k.table.n ≡ accepted k
  unfolding left
  leaves-again j =
      let rows = k.table.rows in
      let n = k.table.n in
      let l : may_leave w q (joined_rows rows n t) (n + 1) n ≡ (Ok tt) =
      may-leave w q (joined_rows rows n t) (n + 1) n
      (record { some = j.some; few = omega (arith, j.few); none-bad = j.none-bad; there = omega arith }) in
      let back : left_rows (joined_rows rows n t) (n + 1) n ≡ rows = joined-left rows n t j.few ∙ sym s.rows_are in
      let m : n + 1 - 1 ≡ n = omega arith in
      rw (l, back, m, ← s.index_is)

  pub joined-leaves : (joined w q k t).number ≡ 0 → left w q (joined w q k t).value k.table.n ≡ accepted k
  unfolding joined
  joined-leaves = by (may_join w q k.table.rows k.table.n t) refl
    where
      by : (v : Verdict) → may_join w q k.table.rows k.table.n t ≡ v
          → (changed v k (fresh w (joined_rows k.table.rows k.table.n t) (k.table.n + 1))).number ≡ 0
          → left w q (changed v k (fresh w (joined_rows k.table.rows k.table.n t) (k.table.n + 1))).value k.table.n ≡ accepted k
      by (Ok _) e z = leaves-again (joining w q k.table.rows k.table.n t e)
      by (Err r) e z = absurd (omega (arith, refusal-numbered r))

-- what an accepted change keeps, and that "A refused change alters nothing"
pub record Sound (w : ℕ) (old : Kept) (h : Handed Kept) : Type 0 where
  pub settled : h.number ≡ 0 → Settled w h.value
  pub kept : (h.number ≡ 0 → ⊥) → h.value ≡ old

changed-sound : (w : ℕ) (v : Verdict) (old : Kept) (rows : List Task) (n : ℕ)
    → (v ≡ (Ok tt) → rows ≡ padded_to no_task most_tasks (at rows) n) → Sound w old (changed v old (fresh w rows n))
changed-sound w (Ok _) old rows n e = record { settled = λ z. record { rows_are = e refl; index_is = refl }; kept = λ d. absurd (d refl) }
changed-sound w (Err r) old rows n e = record { settled = λ z. absurd (omega (arith, refusal-numbered r)); kept = λ d. refl }

pub join-sound : (w q : ℕ) (k : Kept) (t : Task) → Sound w k (joined w q k t)
unfolding joined
join-sound w q k t =
    let rows = k.table.rows in
    let n = k.table.n in
    changed-sound w (may_join w q rows n t) k _ _ (λ e. joined-padded rows n t (joining w q rows n t e).few)

pub leave-sound : (w q : ℕ) (k : Kept) (place : ℕ) → Sound w k (left w q k place)
unfolding left
leave-sound w q k place =
    let rows = k.table.rows in
    let n = k.table.n in
    changed-sound w (may_leave w q rows n place) k _ _ (λ e. left-padded rows n place (leaving w q rows n place e).few)

-- no second answer, nor a second content of what is kept
pub no-second-change : (h : Handed Kept) (r s : Changed) → handed_change r ≡ h → handed_change s ≡ h → r ≡ s
no-second-change h r s e f =
    let same = with-one r.answer s.answer r.kept s.kept (e ∙ sym f) in
    λ i. record { answer = same.0 i; kept = same.1 i }
