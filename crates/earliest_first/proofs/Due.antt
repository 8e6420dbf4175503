-- Sums over the jobs that are due by a tick d: those whose deadlines are no later.
-- Assumes nothing.
use Rattle.ground.proofs.Kit.{ℕ, suc, ◌+◌, ◌*◌, ◌≤◌, ◌<◌, Bool, true, false, ◌≡◌, refl, ap, arith, leb, le-leb, leb-true}
use Rattle.ground.specs.Choice.{pick}
use Rattle.ground.specs.Total.{total}
use Rattle.ground.proofs.Totals.{total-line, term-le-total, total-larger, total-gap}
use Rattle.schedule.specs.Jobs.{Jobs, deadline}

-- the number of a job that is due by d, and 0 for any other
abbrev pub if_due : Jobs → ℕ → (ℕ → ℕ → ℕ) → ℕ → ℕ → ℕ
if_due jobs d f i j = pick (leb (deadline jobs i j) d) (f i j) 0

-- the sum over the jobs that are due by d, all of which are among the first d + 1 of their task
unfoldable pub due_sum : Jobs → ℕ → (ℕ → ℕ → ℕ) → ℕ
due_sum jobs d f = total jobs.tasks (suc d) (if_due jobs d f)

-- job j of task i is due by d
pub record Due (jobs : Jobs) (d i j : ℕ) : Type 0 where
  pub task : i < jobs.tasks
  pub job : j < suc d
  pub by : deadline jobs i j ≤ d

-- for one job, due or not: a number that rises by c times a slope
pick-line : (b : Bool) (x y z c : ℕ) → (b ≡ true → x ≡ y + c * z) → pick b x 0 ≡ pick b y 0 + c * pick b z 0
pick-line true x y z c h = h refl
pick-line false x y z c h = omega arith

-- one that is no larger
pick-le : (b : Bool) (x y : ℕ) → (b ≡ true → x ≤ y) → pick b x 0 ≤ pick b y 0
pick-le true x y h = h refl
pick-le false x y h = omega arith

-- one that is less is that of a due job
pick_less : (b : Bool) (x y : ℕ) → pick b x 0 < pick b y 0 → (b ≡ true) × (x < y)
pick_less true x y h = (refl, h)
pick_less false x y h = absurd (omega arith)

module _ (jobs : Jobs) (d : ℕ) where
  -- the number of a due job stands
  if-due : (f : ℕ → ℕ → ℕ) (i j : ℕ) → Due jobs d i j → if_due jobs d f i j ≡ f i j
  if-due f i j due = ap (λ b. pick b (f i j) 0) (le-leb _ _ due.by)

  -- numbers that rise by c times a slope: the sum rises by c times the sum of the slopes
  pub due-line : (f g slope : ℕ → ℕ → ℕ) (c : ℕ) → ((i j : ℕ) → f i j ≡ g i j + c * slope i j)
      → due_sum jobs d f ≡ due_sum jobs d g + c * due_sum jobs d slope
  unfolding due_sum
  due-line f g slope c h =
      total-line jobs.tasks (suc d) (if_due jobs d f) (if_due jobs d g) (if_due jobs d slope) c
      (λ i l j m. pick-line (leb (deadline jobs i j) d) (f i j) (g i j) (slope i j) c (λ e. h i j))

  -- a sum that is larger is larger at some job that is due
  pub due-larger : (f g : ℕ → ℕ → ℕ) → due_sum jobs d f < due_sum jobs d g → (i : ℕ) × (j : ℕ) × Due jobs d i j × (f i j < g i j)
  unfolding due_sum
  due-larger f g h =
      let at = total-larger jobs.tasks (suc d) (if_due jobs d f) (if_due jobs d g) h in
      let less = pick_less (leb (deadline jobs at.0 at.1) d) (f at.0 at.1) (g at.0 at.1) at.4 in
      (at.0, at.1, record { task = at.2; job = at.3; by = leb-true _ _ less.0 }, less.1)

  -- one due job's gap is no larger than the gap of the sums, where no due job's is negative
  pub due-gap : (f g : ℕ → ℕ → ℕ) → ((i j : ℕ) → Due jobs d i j → f i j ≤ g i j)
      → (i j : ℕ) → Due jobs d i j → due_sum jobs d f + g i j ≤ due_sum jobs d g + f i j
  unfolding due_sum
  due-gap f g h i j due =
      let gap = total-gap jobs.tasks (suc d) (if_due jobs d f) (if_due jobs d g)
      (λ a l b m. pick-le (leb (deadline jobs a b) d) (f a b) (g a b) (λ e. h a b (record { task = l; job = m; by = leb-true _ _ e })))
      i due.task j due.job in
      omega (arith, gap, if-due f i j due, if-due g i j due)

  -- no due job's number is larger than the sum
  pub term-le-due : (f : ℕ → ℕ → ℕ) (i j : ℕ) → Due jobs d i j → f i j ≤ due_sum jobs d f
  unfolding due_sum
  term-le-due f i j due =
      omega (arith, term-le-total jobs.tasks (suc d) (if_due jobs d f) i due.task j due.job, if-due f i j due)
