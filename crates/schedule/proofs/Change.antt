-- Where nothing is left over at tick c, the plan may change there.
-- Assumes nothing.
use Rattle.ground.proofs.Kit.{ℕ, zero, suc, ◌≤◌, Bool, ◌≡◌, ap, arith, le-leb, lt-leb, lt-ltb}
use Rattle.ground.specs.Choice.{bit, both}
use Rattle.ground.proofs.Cases.{by_bool, by_le}
use Rattle.schedule.specs.Jobs.{Jobs, deadline}
use Rattle.schedule.specs.Schedule.{Schedule, done, OnlyReleased, MeetsDeadlines}
use Rattle.schedule.specs.Change.{until, since, QuietAt, StartsAt, ChangesAt}
use Rattle.schedule.proofs.Done.{done_none, done_more, done-grows}

-- up to tick c the work is the same
until-same : (c : ℕ) (runs : Schedule) (i j t : ℕ) → t ≤ c → done (until c runs) i j t ≡ done runs i j t
until-same c runs i j zero l = omega (arith, done_none runs i j, done_none (until c runs) i j)
until-same c runs i j (suc t) l =
    omega (
      arith,
      until-same c runs i j t (omega arith),
      done_more runs i j t,
      done_more (until c runs) i j t,
      ap (λ (b : Bool). bit (both b (runs t i j))) (lt-ltb t c l),
    )

-- jobs none of which is released before c lose nothing by what does not run before it
since-same : (c : ℕ) (jobs : Jobs) (runs : Schedule) → OnlyReleased jobs runs → StartsAt c jobs → (i j t : ℕ) → done (since c runs) i j t ≡ done runs i j t
since-same c jobs runs only starts i j zero = omega (arith, done_none runs i j, done_none (since c runs) i j)
since-same c jobs runs only starts i j (suc t) =
    let earlier = since-same c jobs runs only starts i j t in
    let tick = done_more runs i j t in
    let cut = done_more (since c runs) i j t in
    by_le c t
    (λ l. omega (arith, earlier, tick, cut, ap (λ (b : Bool). bit (both b (runs t i j))) (le-leb c t l)))
    (λ l. by_bool (runs t i j)
    (λ e. let run = only t i j e in absurd (omega (arith, starts i run.0 j, run.1)))
    (λ e. omega (arith, earlier, tick, cut, ap bit e, ap (λ (b : Bool). bit (both b (runs t i j))) (lt-leb c t l))))

-- at a tick at which every job released so far is done, new jobs may start: neither an old nor a new one misses its deadline
pub quiet-change : (c : ℕ) (old : Jobs) (before : Schedule) (new : Jobs) (after : Schedule) → MeetsDeadlines old before → QuietAt c old before
    → MeetsDeadlines new after → OnlyReleased new after → StartsAt c new → ChangesAt c old before new after
quiet-change c old before new after old-met quiet new-met only starts =
    record {
      old-met = λ i l j h. by_le (deadline old i j) c
          (λ early. omega (arith, old-met i l j, until-same c before i j (deadline old i j) early))
          (λ late. omega (arith, quiet i l j h, until-same c before i j c (omega arith), done-grows (until c before) i j c (deadline old i j) (omega arith)));
      new-met = λ i l j. omega (arith, new-met i l j, since-same c new after only starts i j (deadline new i j));
    }
