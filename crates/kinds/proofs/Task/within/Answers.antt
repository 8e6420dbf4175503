-- `kinds::Task::within` meets its contract: each `&&` joins the tests so far with the next. Assumes nothing.
use Rattle.ground.proofs.Kit.{◌≡◌, refl, sym, ◌∙◌, leb, le-leb, lt-leb}
use Rattle.ground.specs.Choice.{both}
use Rattle.ground.proofs.Cases.{both-taken, both_left}
use Rattle.kinds.specs.Limits.{longest_period}
use Rattle.kinds.specs.Task.{is_within}
use Rattle.kinds.proofs.Task.within.Goals as goal
use Rattle.kinds.proofs.Task.within.Goals.{then-self-ge1, else-self-ge1, then-cost-self, else-cost-self, then-self, else-self, Joined-self-ge1, Joined-cost-self, Joined-self}

two : (c : Joined-self-ge1) → let t = c.args.self in c.if-self-ge1.value ≡ both (leb 1 t.c) (leb c.cost-cost.result t.tmin)
two c = elim c.if-self-ge1.branch [
  | then-self-ge1 w ↦ both-taken _ _ _ (le-leb _ _ w.if-self-ge1.true) w.value-is
  | else-self-ge1 w ↦ both_left _ _ _ (lt-leb _ _ w.if-self-ge1.false) w.value-is
]

three : (c : Joined-cost-self) → let t = c.args.self in
    c.if-cost-self.value ≡ both (both (leb 1 t.c) (leb c.cost-cost.result t.tmin)) (leb t.tmin t.tmax)
three c = rw (← two c.before) (elim c.if-cost-self.branch [
  | then-cost-self w ↦ both-taken _ _ _ w.if-cost-self.true w.value-is
  | else-cost-self w ↦ both_left _ _ _ w.if-cost-self.false w.value-is
])

four : (c : Joined-self) → let t = c.args.self in
    c.if-self.value ≡ both (both (both (leb 1 t.c) (leb c.cost-cost.result t.tmin)) (leb t.tmin t.tmax)) (leb t.tmax longest_period)
four c = rw (← three c.before) (elim c.if-self.branch [
  | then-self w ↦ both-taken _ _ _ w.if-self.true w.value-is
  | else-self w ↦ both_left _ _ _ w.if-self.false w.value-is
])

pub returns-then-self-le-LONGEST_PERIOD : goal.returns-then-self-le-LONGEST_PERIOD
unfolding is_within
returns-then-self-le-LONGEST_PERIOD c =
    rw (← c.cost-cost.ensures) (both-taken _ _ _ (sym (four c.before.before) ∙ c.if-self-le-LONGEST_PERIOD.true) refl)

pub returns-else-self-le-LONGEST_PERIOD : goal.returns-else-self-le-LONGEST_PERIOD
unfolding is_within
returns-else-self-le-LONGEST_PERIOD c =
    rw (← c.cost-cost.ensures) (both_left _ _ _ (sym (four c.before) ∙ c.if-self-le-LONGEST_PERIOD.false) (four c.before))
