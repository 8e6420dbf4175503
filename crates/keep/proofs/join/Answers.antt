-- `keep::join` meets its contract. Assumes nothing.
use Rattle.ground.proofs.Kit.{◌+◌, ◌≤◌, ◌∙◌, ap, refl, arith, rules}
use Rattle.kinds.specs.declared.Table.{Table}
use Rattle.springs.specs.Handover.{TakenIn}
use Rattle.springs.proofs.Columns.{taken-good, taken-bad}
use Rattle.keep.specs.Keep.{joined_rows}
use Rattle.keep.proofs.Springs.{joined-indexable, joined-index}
use Rattle.keep.proofs.Changes.{fresh-is, join-zero, join-many, join-bad, join-made}
use Rattle.keep.proofs.join.Goals as goal

pub returns-then-notch-eq0 : goal.returns-then-notch-eq0
returns-then-notch-eq0 c = c.refuse.ensures ∙ join-zero _ _ _ _ c.if-notch-eq0.true

pub returns-then-n-ge-MOST_TASKS : goal.returns-then-n-ge-MOST_TASKS
returns-then-n-ge-MOST_TASKS c =
    c.refuse-then-n-ge-MOST_TASKS.ensures ∙ join-many _ _ _ _ c.if-notch-eq0.false c.if-n-ge-MOST_TASKS.true

pub take_in-requires : goal.take_in-requires
take_in-requires c =
    let some : 1 ≤ c.args.notch = search rules in
    (omega (arith, ap (λ (t : Table). t.n) c.with-after.ensures), some)

pub returns-in-Err : goal.returns-in-Err
returns-in-Err c =
    let args = c.args in
    let table = args.kept.table in
    let taken : TakenIn args.swap args.notch (joined_rows table.rows table.n args.task) (table.n + 1) c.take_in.result c.take_in.new.self =
    rw c.with-after.ensures at c.take_in.ensures.0 in
    let bad = taken-bad _ _ _ _ _ _ taken _ c.in-Err.is in
    c.refuse-in-Err.ensures ∙ join-bad _ _ args.kept args.task c.if-notch-eq0.false c.if-n-ge-MOST_TASKS.false _ bad.0 (omega (arith, bad.1))

pub index_of-index-requires : goal.index_of-index-requires
index_of-index-requires c =
    let args = c.args in
    let table = args.kept.table in
    let taken : TakenIn args.swap args.notch (joined_rows table.rows table.n args.task) (table.n + 1) c.take_in.result c.take_in.new.self =
    rw c.with-after.ensures at c.take_in.ensures.0 in
    let good = taken-good _ _ _ _ _ _ taken c.in_default.is in
    joined-indexable _ _ _ _ good.1 (omega (arith, c.if-n-ge-MOST_TASKS.false)) _ good.0

pub returns : goal.returns
returns c =
    let args = c.args in
    let table = args.kept.table in
    let taken : TakenIn args.swap args.notch (joined_rows table.rows table.n args.task) (table.n + 1) c.take_in.result c.take_in.new.self =
    rw c.with-after.ensures at c.take_in.ensures.0 in
    let good = taken-good _ _ _ _ _ _ taken c.in_default.is in
    let index = joined-index _ _ _ _ good.1 (omega (arith, c.if-n-ge-MOST_TASKS.false)) _ c.index_of-index.ensures in
    c.accept.ensures
    ∙ fresh-is _ _ _ _ _ c.with-after.ensures index
    ∙ join-made _ _ _ _ c.if-notch-eq0.false c.if-n-ge-MOST_TASKS.false _ refl (omega (arith, good.0))
