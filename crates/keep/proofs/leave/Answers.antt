-- `keep::leave` meets its contract. Assumes nothing.
use Rattle.ground.proofs.Kit.{◌∙◌, refl}
use Rattle.springs.proofs.Columns.{taken-good, taken-bad}
use Rattle.keep.specs.Keep.{left_rows}
use Rattle.keep.proofs.Springs.{left-indexable, left-index}
use Rattle.keep.proofs.Changes.{fresh-is, leave-zero, leave-many, leave-bad, leave-missing, leave-made}
use Rattle.keep.proofs.leave.Goals as goal

pub returns-then-notch-eq0 : goal.returns-then-notch-eq0
returns-then-notch-eq0 c = c.refuse.ensures ∙ leave-zero _ _ _ _ c.if-notch-eq0.true

pub returns-then-n-gt-MOST_TASKS : goal.returns-then-n-gt-MOST_TASKS
returns-then-n-gt-MOST_TASKS c =
    c.refuse-then-n-gt-MOST_TASKS.ensures ∙ leave-many _ _ _ _ c.if-notch-eq0.false c.if-n-gt-MOST_TASKS.true

pub returns-in-Err : goal.returns-in-Err
returns-in-Err c =
    let bad = taken-bad _ _ _ _ _ _ c.take_in.ensures.0 _ c.in-Err.is in
    c.refuse-in-Err.ensures ∙ leave-bad _ _ _ _ c.if-notch-eq0.false c.if-n-gt-MOST_TASKS.false _ bad.0 bad.1

pub returns-then-n-place : goal.returns-then-n-place
returns-then-n-place c =
    let good = taken-good _ _ _ _ _ _ c.take_in.ensures.0 c.in_default.is in
    c.refuse-then-n-place.ensures
    ∙ leave-missing _ _ _ _ c.if-notch-eq0.false c.if-n-gt-MOST_TASKS.false _ refl good.0 c.if-n-place.true

pub index_of-index-requires : goal.index_of-index-requires
index_of-index-requires c =
    let good = taken-good _ _ _ _ _ _ c.take_in.ensures.0 c.in_default.is in
    left-indexable _ _ _ _ good.1 c.if-n-gt-MOST_TASKS.false _ _ good.0

pub returns : goal.returns
unfolding left_rows
returns c =
    let few = c.if-n-gt-MOST_TASKS.false in
    let good = taken-good _ _ _ _ _ _ c.take_in.ensures.0 c.in_default.is in
    let index = left-index _ _ _ _ good.1 few _ _ c.index_of-index.ensures in
    c.accept.ensures
    ∙ fresh-is _ _ _ _ _ c.without-rest.ensures index
    ∙ leave-made _ _ _ _ c.if-notch-eq0.false few _ refl good.0 c.if-n-place.false
