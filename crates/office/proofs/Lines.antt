-- The ways through a line and through a text, and the turns of an import.
-- Assumes nothing.
use Rattle.ground.proofs.Kit.{ℕ, zero, suc, ◌+◌, ◌-◌, ◌≤◌, ◌<◌, List, [], ◌∷◌, ◌++◌, ◌≡◌, refl, sym, ◌∙◌, ap, arith, length, set, length-append, lt-ltb, Some, None, Ok, Err}
use Rattle.ground.proofs.Kit.{replicate, le-ltb}
use Rattle.ground.specs.Laid.{padded}
use Rattle.ground.proofs.Laid.{laid_next}
use Rattle.kinds.specs.declared.Task.{Task}
use Rattle.kinds.specs.declared.Refusal.TheVariants.{TooManyTasks, BadLine}
use Rattle.kinds.specs.Limits.{most_tasks}
use Rattle.kinds.specs.Task.{task, no_task}
use Rattle.numeral.specs.Scan.{numeral_at}
use Rattle.office.specs.Text.{comma, newline}
use Rattle.office.specs.Reading.{line_at, read_from, read_text}

-- the ways through a line
module _ (s : List ℕ) (at : ℕ) where
  pub bad-c : numeral_at s at comma ≡ None → line_at s at ≡ None
  unfolding line_at
  bad-c e = rw e

  module _ (c at-tmin : ℕ) (e₁ : numeral_at s at comma ≡ Some (c, at-tmin)) where
    pub bad-tmin : numeral_at s at-tmin comma ≡ None → line_at s at ≡ None
    unfolding line_at
    bad-tmin e = rw (e₁, e)

    module _ (tmin at-tmax : ℕ) (e₂ : numeral_at s at-tmin comma ≡ Some (tmin, at-tmax)) where
      pub bad-tmax : numeral_at s at-tmax comma ≡ None → line_at s at ≡ None
      unfolding line_at
      bad-tmax e = rw (e₁, e₂, e)

      module _ (tmax at-e : ℕ) (e₃ : numeral_at s at-tmax comma ≡ Some (tmax, at-e)) where
        pub bad-e : numeral_at s at-e newline ≡ None → line_at s at ≡ None
        unfolding line_at
        bad-e e = rw (e₁, e₂, e₃, e)

        pub good-line : (e next : ℕ) → numeral_at s at-e newline ≡ Some (e, next) → line_at s at ≡ Some (task c tmin tmax e, next)
        unfolding line_at
        good-line e next e₄ = rw (e₁, e₂, e₃, e₄)

-- the ways through a text
module _ (rows : List Task) (s : List ℕ) (at : ℕ) where
  pub from_end : (more : ℕ) → length s ≤ at → read_from more rows s at ≡ Ok rows
  unfolding read_from
  from_end zero h = simp (le-ltb at (length s) h)
  from_end (suc more) h = simp (le-ltb at (length s) h)

  pub from-many : at < length s → read_from 0 rows s at ≡ Err (TooManyTasks most_tasks)
  unfolding read_from
  from-many h = simp (lt-ltb at (length s) h)

  pub from-bad : (more : ℕ) → at < length s → line_at s at ≡ None → read_from (suc more) rows s at ≡ Err (BadLine (length rows))
  unfolding read_from
  from-bad more h e = rw (lt-ltb at (length s) h, e)

  pub from_more : (more : ℕ) → at < length s → (t : Task) (next : ℕ) → line_at s at ≡ Some (t, next)
      → read_from (suc more) rows s at ≡ read_from more (rows ++ (t ∷ [])) s next
  unfolding read_from
  from_more more h t next e = rw (lt-ltb at (length s) h, e)

-- an import that has read some rows and come to a place: what is left of the text gives the whole reading
pub record Going (s : List ℕ) (array : List Task) (at n : ℕ) : Type 0 where
  pub rows : List Task
  pub left : read_from (most_tasks - n) rows s at ≡ read_text s
  pub count : length rows ≡ n
  pub few : n ≤ most_tasks
  pub placed : array ≡ padded no_task most_tasks rows

pub going-none : (s : List ℕ) → Going s (padded no_task most_tasks []) 0 0
unfolding read_text
going-none s = record { rows = []; left = refl; count = refl; few = omega arith; placed = refl }

module _ (s : List ℕ) (array : List Task) (at n : ℕ) (g : Going s array at n) where
  pub going-many : at < length s → most_tasks ≤ n → read_text s ≡ Err (TooManyTasks most_tasks)
  going-many h m =
      let f = g.few in
      let z : most_tasks - n ≡ 0 = omega arith in
      sym g.left ∙ (ap (λ (k : ℕ). read_from k g.rows s at) z ∙ from-many g.rows s at h)

  pub going_end : length s ≤ at → read_text s ≡ Ok g.rows
  going_end h = sym g.left ∙ from_end g.rows s at (most_tasks - n) h

  module _ (h : at < length s) (m : n < most_tasks) where
    next-line : read_text s ≡ read_from (suc (31 - n)) g.rows s at
    next-line =
        let z : most_tasks - n ≡ suc (31 - n) = omega arith in sym g.left ∙ ap (λ (k : ℕ). read_from k g.rows s at) z

    pub going-bad : line_at s at ≡ None → read_text s ≡ Err (BadLine n)
    going-bad e = next-line ∙ (from-bad g.rows s at (31 - n) h e ∙ ap (λ (k : ℕ). Err (BadLine k)) g.count)

    pub going_more : (t : Task) (next : ℕ) → line_at s at ≡ Some (t, next) → Going s (set array n t) next (n + 1)
    going_more t next e =
        let z : most_tasks - (n + 1) ≡ 31 - n = omega arith in
        record {
          rows = g.rows ++ (t ∷ []);
          left =
              ap (λ (k : ℕ). read_from k (g.rows ++ (t ∷ [])) s next) z
              ∙ (sym (from_more g.rows s at (31 - n) h t next e) ∙ sym next-line);
          count = length-append g.rows (t ∷ []) ∙ ap (λ (k : ℕ). k + 1) g.count;
          few = omega arith;
          placed =
              ap (λ (l : List Task). set l n t) g.placed
              ∙ (ap (λ (k : ℕ). set (padded no_task most_tasks g.rows) k t) (sym g.count)
              ∙ laid_next g.rows (replicate most_tasks no_task) t);
        }
