-- A record that passes the test is good once its swaps are paid for and stands on notches, and the other way; and the table of a list has
-- its records.
-- Assumes nothing.
use Rattle.ground.proofs.Kit.{ℕ, ◌+◌, ◌*◌, ◌≤◌, true, List, ◌≡◌, arith, length, eq-eqb, eqb-true, le-leb, leb-true}
use Rattle.ground.proofs.Cases.{both_true}
use Rattle.ground.proofs.Laid.{padded-at}
use Rattle.kinds.specs.declared.Task.{Task}
use Rattle.kinds.specs.Limits.{most_tasks}
use Rattle.kinds.specs.Task.{no_task, at, table_of, priced, Good, OnNotch, is_within, is_on_notch, is_good}

some_more : (c d : ℕ) → 1 ≤ c → 1 ≤ c + d
some_more c d h = omega arith

within-is : (w : ℕ) (t : Task) → is_within w t ≡ true → Good (priced w t)
unfolding is_within
within-is w t e =
    let e₄ = both_true _ _ e in
    let e₃ = both_true _ _ e₄.0 in
    let e₂ = both_true _ _ e₃.0 in
    let e₁ = both_true _ _ e₂.0 in
    record {
      c-some = some_more t.c (2 * w) (leb-true _ _ e₁.0);
      c-tmin = leb-true _ _ e₁.1;
      tmin-tmax = leb-true _ _ e₂.1;
      tmax-most = leb-true _ _ e₃.1;
      e-most = leb-true _ _ e₄.1;
    }

pub good-is : (w q : ℕ) (t : Task) → is_good w q t ≡ true → Good (priced w t)
unfolding is_good
good-is w q t e = within-is w t (both_true _ _ e).0

pub notch-is : (w q : ℕ) (t : Task) → 1 ≤ q → is_good w q t ≡ true → OnNotch q (priced w t)
unfolding is_good
notch-is w q t some e =
    let on = both_true _ _ (both_true (is_within w t) (is_on_notch q t) e).1 in
    record { some = some; tmin-on = eqb-true _ _ on.0; tmax-on = eqb-true _ _ on.1 }

is_within_lem : (w : ℕ) (t : Task) → 1 ≤ t.c → Good (priced w t) → is_within w t ≡ true
unfolding is_within
is_within_lem w t some g =
    rw (le-leb _ _ some, le-leb _ _ g.c-tmin, le-leb _ _ g.tmin-tmax, le-leb _ _ g.tmax-most, le-leb _ _ g.e-most)

pub is-good : (w q : ℕ) (t : Task) → 1 ≤ t.c → Good (priced w t) → OnNotch q (priced w t) → is_good w q t ≡ true
unfolding is_good
is-good w q t some g on = rw (is_within_lem w t some g, eq-eqb _ _ on.tmin-on, eq-eqb _ _ on.tmax-on)

-- the record number i of the table is the list's
pub table_at : (rows : List Task) → length rows ≤ most_tasks → (i : ℕ) → at (table_of rows).rows i ≡ at rows i
table_at rows few i = padded-at no_task most_tasks rows few i
