-- `ground::least_passing` meets its contract: one step is left, which is the least, or stands for none. Assumes nothing.
use Rattle.ground.proofs.Kit.{le-leb, lt-leb}
use Rattle.ground.proofs.Cases.{by_le}
use Rattle.ground.proofs.Halving.{halved-found, halved_none}
use Rattle.ground.proofs.least_passing.Goals as goal

pub returns : goal.returns
returns g c = λ test up answers.
    let halved = c.loop-from.invariant.halved test up answers in
    let done = c.loop-from-test.false in
    by_le c.loop-from.from c.args.full
    (λ l. rw (c.then_some.ensures, le-leb _ _ l) (halved-found test _ _ _ halved done l))
    (λ l. rw (c.then_some.ensures, lt-leb _ _ l) (halved_none test _ _ _ halved done l))
