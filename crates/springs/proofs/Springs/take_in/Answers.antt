-- `springs::Springs::take_in` meets its contract. The loop: the first i records are good, their springs are taken in, and the loads are
-- as they were.
-- Assumes nothing.
use Rattle.std.proofs.lemmas.List.{get_or-take}
use Rattle.ground.proofs.Kit.{ℕ, ◌≤◌, ◌<◌, Bool, not, ◌≡◌, refl, sym, ◌∙◌, ap, arith, length, get_or, take, length-take-le}
use Rattle.ground.proofs.First.{first-here, first_more, first-none}
use Rattle.kinds.specs.declared.Task.{Task}
use Rattle.kinds.specs.declared.Table.{Table}
use Rattle.kinds.specs.Task.{no_task, at, is_good}
use Rattle.kinds.proofs.Records.{good-is}
use Rattle.share.specs.Table.{first_bad}
use Rattle.share.proofs.Tables.{priced-at}
use Rattle.springs.specs.Spring.{spring_of}
use Rattle.springs.proofs.Columns.{sprung-none, sprung-more, taken-until, taken-all}
use Rattle.springs.proofs.Springs.take_in.Goals as goal

-- the record that is read, and what its test says
module _ (table : Table) (i : ℕ) (long : table.n ≤ length table.rows) (l : i < length (take table.n table.rows)) where
  here : (i < table.n) × (get_or (take table.n table.rows) i no_task ≡ at table.rows i)
  here =
      let below : i < table.n = omega (arith, length-take-le table.n table.rows long) in
      (below, get_or-take {A = Task} table.n table.rows i no_task below)

  tested : (w q : ℕ) (b r : Bool) → b ≡ is_good w q (get_or (take table.n table.rows) i no_task) → b ≡ r → is_good w q (at table.rows i) ≡ r
  tested w q b r e is = rw here.1 at (sym e ∙ is)

pub loop-i-init : goal.loop-i-init
loop-i-init c = (refl, λ j l. absurd (omega arith), sprung-none _ _ refl, refl)

pub returns-then-not-good : goal.returns-then-not-good
unfolding first_bad
returns-then-not-good c =
    let args = c.args in
    let bad : ℕ → Bool = λ j. not (is_good args.swap args.notch (at args.table.rows j)) in
    let row = here args.table c.loop-i.i (omega arith) c.loop-i-test.true in
    let found = tested args.table c.loop-i.i (omega arith) c.loop-i-test.true _ _ _ _ c.good.ensures c.if-not-good.true in
    let taken = taken-until _ _ _ _ _ _ c.loop-i.invariant.0 c.loop-i.invariant.2 (first-here bad _ _ c.loop-i.invariant.1 row.0 (ap not found)) row.0 in
    (taken, c.loop-i.invariant.3)

pub priced-requires : goal.priced-requires
priced-requires c =
    let table = c.args.table in
    let row = here table c.loop-i.i (omega arith) c.loop-i-test.true in
    let found = tested table c.loop-i.i (omega arith) c.loop-i-test.true _ _ _ _ c.good.ensures c.if-not-good.false in
    let good = good-is _ _ _ found in
    rw row.1 (omega (arith, good.c-tmin, good.tmin-tmax, good.tmax-most))

pub of-spring-requires : goal.of-spring-requires
of-spring-requires c =
    let table = c.args.table in
    let row = here table c.loop-i.i (omega arith) c.loop-i-test.true in
    let found = tested table c.loop-i.i (omega arith) c.loop-i-test.true _ _ _ _ c.good.ensures c.if-not-good.false in
    rw (c.priced.ensures, row.1) (good-is _ _ _ found)

pub push-requires : goal.push-requires
push-requires c =
    let table = c.args.table in
    let row = here table c.loop-i.i (omega arith) c.loop-i-test.true in
    omega (arith, c.loop-i.invariant.2.count, row.0)

pub loop-i-preserved : goal.loop-i-preserved
loop-i-preserved c =
    let args = c.args in
    let table = args.table in
    let bad : ℕ → Bool = λ j. not (is_good args.swap args.notch (at table.rows j)) in
    let row = here table c.loop-i.i (omega arith) c.loop-i-test.true in
    let found = tested table c.loop-i.i (omega arith) c.loop-i-test.true _ _ _ _ c.good.ensures c.if-not-good.false in
    let priced = (rw row.1 at c.priced.ensures) ∙ sym (priced-at args.swap table.rows table.n c.loop-i.i row.0) in (
      c.push.ensures.0.notch ∙ c.loop-i.invariant.0,
      first_more bad table.n _ c.loop-i.invariant.1 (ap not found),
      sprung-more _ _ _ _ _ c.loop-i.invariant.2 c.push.ensures.0 (c.of-spring.ensures ∙ ap spring_of priced),
      c.push.ensures.1 ∙ c.loop-i.invariant.3,
    )

pub returns : goal.returns
unfolding first_bad
returns c =
    let args = c.args in
    let table = args.table in
    let bad : ℕ → Bool = λ j. not (is_good args.swap args.notch (at table.rows j)) in
    let long = length-take-le table.n table.rows (omega arith) in
    let all : c.loop-i.i ≡ table.n = omega arith in
    (taken-all _ _ _ _ _ _ c.loop-i.invariant.0 c.loop-i.invariant.2 (first-none bad _ _ c.loop-i.invariant.1 all) all, c.loop-i.invariant.3)
