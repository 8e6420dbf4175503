-- `quick_finder::find_step` meets its contract. Assumes nothing.
use Rattle.ground.proofs.Kit.{false}
use Rattle.springs.proofs.Columns.{workable-beside}
use Rattle.outcome.proofs.Searches.{may-search}
use Rattle.quick_finder.proofs.Served.{refused-looked, found-looked}
use Rattle.quick_finder.proofs.find_step.Goals as goal

pub returns-in-Err : goal.returns-in-Err
returns-in-Err c = (refused-looked _ _ _ _ _ _ (rw c.in-Err.is at c.admit.ensures.0), c.admit.ensures.1)

pub search_under-ended-requires : goal.search_under-ended-requires
search_under-ended-requires c = may-search false _ _ _ _ _ _ c.admit.ensures.0 c.in_default.is

pub returns : goal.returns
returns c =
    let ended = c.search_under-ended.ensures in (
      found-looked _ _ _ _ _ _ _ c.admit.ensures.0 c.in_default.is _ (ended.0, ended.2) _ c.ok_or.ensures.value,
      λ h. workable-beside _ _ ended.2 ended.1 (c.admit.ensures.1 h),
    )
