-- Some changes, worked out.
-- Assumes nothing.
use Rattle.ground.proofs.Kit.{◌∷◌, ◌≡◌, refl, replicate}
use Rattle.ground.specs.First.{first_from, first_below}
use Rattle.ground.specs.Folds.{count_to, list_to}
use Rattle.ground.specs.Laid.{over}
use Rattle.kinds.specs.declared.Task.{Task}
use Rattle.kinds.specs.declared.Refusal.TheVariants.{Misset, BadRecord, NoSuchRecord}
use Rattle.kinds.specs.Answer.{accepted, refused}
use Rattle.kinds.specs.Task.{task, no_task, table, is_within, is_good}
use Rattle.share.specs.Share.{saturation_at}
use Rattle.share.specs.Table.{first_bad, priced_rows}
use Rattle.order.specs.Order.{rank_of, of_rank}
use Rattle.order.specs.Index.{index_by}
use Rattle.keep.specs.declared.Kept.{Kept}
use Rattle.keep.specs.Keep.{joined_rows, left_rows, may_join, may_leave, joined, left}

slow : Task
slow = task 6 10 30 1000

fast : Task
fast = task 6 10 11 1000

-- two tasks with a stray record past them, and an index that is wrong
found : Kept
found = record { table = table (slow ∷ fast ∷ task 1 2 3 4 ∷ replicate 29 no_task) 2; index = record { entries = replicate 32 7; n = 9 } }

-- a third joins: it takes the stray record's place, and the index is right
joins : joined 0 1 found slow ≡ accepted (record {
  table = table (slow ∷ fast ∷ slow ∷ replicate 29 no_task) 3;
  index = record { entries = 1 ∷ 0 ∷ 2 ∷ replicate 29 0; n = 3 };
})
unfolding slow fast found joined may_join joined_rows first_bad is_good is_within first_below first_from index_by list_to over of_rank rank_of count_to saturation_at
    priced_rows
joins = refl

-- the first leaves: the second moves down, and zeros stand past it
leaves : left 0 1 found 0 ≡ accepted (record {
  table = table (fast ∷ replicate 31 no_task) 1;
  index = record { entries = replicate 32 0; n = 1 };
})
unfolding slow fast found left may_leave left_rows first_bad is_good is_within first_below first_from index_by list_to over of_rank rank_of count_to saturation_at priced_rows
leaves = refl

-- refused changes alter nothing
bad-joins : joined 0 1 found no_task ≡ refused found (BadRecord 2)
unfolding slow fast found joined may_join joined_rows first_bad is_good is_within first_below first_from list_to over
bad-joins = refl

missing-leaves : left 0 1 found 2 ≡ refused found (NoSuchRecord 2)
unfolding slow fast found left may_leave first_bad is_good is_within first_below first_from
missing-leaves = refl

-- where swaps take C + 2w above Tmin, the first record is bad, even where it leaves
bad-leaves : left 3 1 found 0 ≡ refused found (BadRecord 0)
unfolding slow fast found left may_leave first_bad is_good is_within first_below first_from
bad-leaves = refl

no-notch : left 0 0 found 2 ≡ refused found Misset
unfolding left may_leave
no-notch = refl
