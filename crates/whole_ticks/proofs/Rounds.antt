-- Round after round: cells that fit the jobs of a round, and give each what it asks for, give every job its load of its period.
-- Assumes nothing.
use Rattle.ground.proofs.Kit.{ℕ, suc, ◌+◌, ◌-◌, ◌*◌, ◌/◌, ◌%◌, ◌≤◌, ◌<◌, true, ◌≡◌, refl, ◌∙◌, ap, le_trans, mul-le-mul_left, mul-le-mul_right, arith, eqb}
use Rattle.ground.proofs.Kit.{leb, ltb, eq-eqb, eqb-true, le-leb, leb-true, lt-ltb, ltb-true}
use native.Mathlib.Nat.{div-add-mod', mod-lt, div-le_self}
use Rattle.ground.specs.Choice.{pick, bit}
use Rattle.ground.specs.Folds.{sum_to}
use Rattle.ground.specs.Total.{total}
use Rattle.ground.proofs.Cases.{by_le, both_true}
use Rattle.ground.proofs.Folds.{sum-cong, sum-le, term-le-sum}
use Rattle.ground.proofs.Tests.{bit-some}
use Rattle.schedule.specs.Jobs.{Jobs}
use Rattle.schedule.specs.Periodic.{periodic}
use Rattle.schedule.specs.Schedule.{Schedule, done, AtMost}
use Rattle.fluid.specs.Fluid.{Shareable, Fluid}
use Rattle.whole_ticks.specs.Cells.{Cells, across, down, Fits, Full}
use Rattle.whole_ticks.specs.Round.{Round, round_parts, in_rounds}
use Rattle.whole_ticks.proofs.Choices.{bit-both, bit-second, pick_some}
use Rattle.whole_ticks.proofs.Sums.{count-sum, sum-at}
use Rattle.whole_ticks.proofs.Stretches.{stretch-le, stretch-all, sum_rows, stretch-of, place_of, within-stretch}
use Rattle.whole_ticks.proofs.Round.{ends}

-- where a tick of a job stands in a round into which n periods go
place-in-round : (round n p j x : ℕ) → 1 ≤ round → round ≡ n * p → x < p → ((j % n) * p + x < round) × ((j * p + x) % round ≡ j % n * p + x)
place-in-round round n p j x h e l = (inside, ap (λ (y : ℕ). y % round) split ∙ place_of (j / n) (j % n * p + x) round inside)
  where
    some : 1 ≤ n
    some = by_le n 0 (λ o. let z : n ≡ 0 = omega arith in absurd (omega (arith, ap (λ (y : ℕ). y * p) z))) (λ o. o)

    inside : (j % n) * p + x < round
    inside = omega (arith, mul-le-mul_right {m = suc (j % n)} {n = n} p (mod-lt j some))

    split : j * p + x ≡ j / n * round + (j % n * p + x)
    split = omega (arith, ap (λ (y : ℕ). y * p) (div-add-mod' j n), ap (λ (y : ℕ). j / n * y) e)

module _ (round m S tasks from : ℕ) (period load : ℕ → ℕ) (need : ℕ → ℕ → ℕ) (is : Round round tasks period) (share : Shareable m S tasks load)
    (cells : Cells) (fits : Fits (round_parts round m S tasks period load) cells)
  where
    -- the jobs, and what runs
    abbrev jobs : Jobs
    jobs = periodic tasks period (λ i. from) need

    abbrev runs : Schedule
    runs = in_rounds round tasks period from cells

    -- what runs is a released job
    runs-released : (t i j : ℕ) → runs t i j ≡ true → (i < tasks) × (from + j * period i ≤ t)
    unfolding in_rounds
    runs-released t i j e =
        let one = both_true (ltb i tasks) _ e in
        let two = both_true (leb from t) _ one.1 in
        let three = both_true (eqb ((t - from) / period i) j) _ two.1 in
        let task = ltb-true i tasks one.0 in
        let since = leb-true from t two.0 in
        let job = eqb-true ((t - from) / period i) j three.0 in
        let at = within-stretch j (t - from) (period i) (is.periods i task) job in
        (task, omega arith)

    -- of each task one job at most, and of all no more than the rows that have the tick
    runs-most : AtMost m jobs runs
    unfolding total in_rounds down round_parts
    runs-most t =
        omega (
          arith,
          sum-le (λ i. sum_to (λ j. bit (runs t i j)) (suc t)) (λ i. sum_to (λ k. bit (cells (i * round + k) v)) round) tasks (λ i l. task i),
          sum_rows (λ r. bit (cells r v)) tasks round,
          fits.room v (mod-lt (t - from) is.some),
        )
      where
        v : ℕ
        v = (t - from) % round

        task : (i : ℕ) → sum_to (λ j. bit (runs t i j)) (suc t) ≤ sum_to (λ k. bit (cells (i * round + k) v)) round
        task i =
            let c = cells (i * round + v / period i) v in
            omega (
              arith,
              sum-le (λ j. bit (runs t i j)) (λ j. pick (eqb ((t - from) / period i) j) (bit c) 0) (suc t)
                  (λ j l. le_trans (bit-second (ltb i tasks) _) (le_trans (bit-second (leb from t) _) (bit-both (eqb ((t - from) / period i) j) c))),
              sum-at ((t - from) / period i) (bit c) (suc t),
              term-le-sum (λ k. bit (cells (i * round + k) v)) round (v / period i) (omega (arith, div-le_self v (period i), mod-lt (t - from) is.some)),
            )

    -- what runs in a tick, where it is known which tick of a round it is and in whose period
    runs-at : (t s i j k v : ℕ) → i < tasks → from ≤ t → t - from ≡ s → s / period i ≡ j → s % round ≡ v → v / period i ≡ k
        → runs t i j ≡ cells (i * round + k) v
    unfolding in_rounds
    runs-at t s i j k v l h e f g o = rw (lt-ltb i tasks l, le-leb from t h, e, f, g, o, eq-eqb j j refl)

    -- a row has ticks of its job's period only
    row_within : (i k t : ℕ) → i < tasks → k < round → 1 ≤ bit (cells (i * round + k) t) → (k * period i ≤ t) × (t < k * period i + period i)
    unfolding round_parts
    row_within i k t l o h =
        let inside = rw (stretch-of i k round o, place_of i k round o) at (fits.inside (i * round + k) t (bit-some _ h)) in
        let e = eqb-true (t / period i) k (pick_some (eqb (t / period i) k) (load i) inside) in
        within-stretch k t (period i) (is.periods i l) e

    module _ (full : Full (round_parts round m S tasks period load) cells) (i : ℕ) (l : i < tasks) where
      -- the row of a job that begins in the round has as many ticks as the job is to be given
      row-given : (k : ℕ) → k * period i < round → load i * period i / S ≤ sum_to (λ x. bit (cells (i * round + k) (k * period i + x))) (period i)
      unfolding round_parts across
      row-given k h =
          let o : k < round = omega (arith, mul-le-mul_left k (is.periods i l)) in
          let r = full (i * round + k) (omega (arith, mul-le-mul_right round l)) in
          omega (
            arith,
            rw (stretch-of i k round o, place_of i k round o, lt-ltb (k * period i) round h) at r,
            stretch-all (λ t. bit (cells (i * round + k) t)) (k * period i) (period i) round (ends round m S tasks period load is share i k l h)
                (λ t. row_within i k t l o),
          )

      -- so the job in whose period a tick is runs as its row says, in whichever round
      runs-given : (j : ℕ) → load i * period i / S ≤ done runs i j (from + j * period i + period i)
      unfolding done
      runs-given j =
          omega (
            arith,
            row-given k (omega (arith, (place 0 (is.periods i l)).0)),
            sum-cong (λ x. bit (runs (from + j * period i + x) i j)) (λ x. bit (cells (i * round + k) (k * period i + x))) (period i)
                (λ x o. ap bit (runs-at (from + j * period i + x) (j * period i + x) i j k (k * period i + x) l (omega arith) (omega arith)
                (stretch-of j x (period i) o) (place x o).1 (stretch-of k x (period i) o))),
            stretch-le (λ t. bit (runs t i j)) (from + j * period i) (period i) (from + j * period i + period i) (omega arith),
            count-sum (λ t. runs t i j) (from + j * period i + period i),
          )
        where
          n : ℕ
          n = (is.times i l).0

          k : ℕ
          k = j % n

          place : (x : ℕ) → x < period i → (k * period i + x < round) × ((j * period i + x) % round ≡ k * period i + x)
          place x o = place-in-round round n (period i) j x is.some (is.times i l).1 o

    -- together
    pub rounds-whole : Full (round_parts round m S tasks period load) cells → Fluid m S load jobs runs
    rounds-whole full = record { only-released = runs-released; at_most = runs-most; given = runs-given full }
