-- `checked_proposal::plan_or_refuse` meets its contract. Assumes nothing.
use Rattle.ground.proofs.Kit.{rules, ◌≡◌, ◌≤◌, sym, ◌∙◌, arith, length, length-take-le, Err}
use Rattle.kinds.specs.Limits.{most_tasks}
use Rattle.checked_proposal.proofs.Handing.{hands-refused, accepted-fits, hands-accepted}
use Rattle.checked_proposal.proofs.plan_or_refuse.Goals as goal
use Rattle.checked_proposal.proofs.plan_or_refuse.Goals.{In_ok-check}

-- what is accepted has no more tasks than the planner's array has room for, and an entry for each
fits : (c : In_ok-check) → (c.args.table.n ≤ length c.propose-planned.result) × (c.args.table.n ≤ length c.args.proposal.now)
fits c =
    let args = c.args in
    let room : length c.propose-planned.result ≡ most_tasks = search rules in
    let accepted = rw (c.min-entries.ensures, c.in_ok-check.was) at c.check.ensures in
    let both = accepted-fits args.settings args.table.rows args.table.n args.step args.proposal.now args.loads.now c.propose-planned.result room _ accepted in
    (omega (arith, both.0, room), both.1)

-- the planner's array has room for the most tasks
pub slice_bounds-check-end : goal.slice_bounds-check-end
slice_bounds-check-end c =
    let room : length c.propose-planned.result ≡ most_tasks = search rules in
    sym (length-take-le c.min-entries.result c.propose-planned.result (omega (arith, c.min-entries.ensures, room)))

-- the verdict and the loads are the checker's on as many entries as are lent
pub returns-in_err-check : goal.returns-in_err-check
returns-in_err-check c =
    let room : length c.propose-planned.result ≡ most_tasks = search rules in
    let e : c.from_residual.result ≡ Err c.in_err-check.field-0.0 = search rules in
    rw e (hands-refused _ _ _ _ _ _ _ room _ _ (rw (c.min-entries.ensures, c.in_err-check.was) at c.check.ensures))

pub slice_bounds-copy_from_slice-end : goal.slice_bounds-copy_from_slice-end
slice_bounds-copy_from_slice-end c = (fits (goal.at.slice_bounds-copy_from_slice-end c).In_ok-check).1

pub slice_bounds-copy_from_slice-end-2 : goal.slice_bounds-copy_from_slice-end-2
slice_bounds-copy_from_slice-end-2 c =
    sym (length-take-le _ _ (fits (goal.at.slice_bounds-copy_from_slice-end-2 c).In_ok-check).1)

pub slice_bounds-planned-end-2 : goal.slice_bounds-planned-end-2
slice_bounds-planned-end-2 c = (fits (goal.at.slice_bounds-planned-end-2 c).In_ok-check).0

pub slice_bounds-copy_from_slice-end-3 : goal.slice_bounds-copy_from_slice-end-3
slice_bounds-copy_from_slice-end-3 c =
    sym (length-take-le _ _ (fits (goal.at.slice_bounds-copy_from_slice-end-3 c).In_ok-check).0)

pub copy_from_slice-requires : goal.copy_from_slice-requires
copy_from_slice-requires c =
    let both = fits (goal.at.copy_from_slice-requires c).In_ok-check in
    length-take-le _ _ both.1 ∙ sym (length-take-le _ _ both.0)

pub returns : goal.returns
returns c =
    let room : length c.propose-planned.result ≡ most_tasks = search rules in
    let accepted = rw (c.min-entries.ensures, c.in_ok-check.was) at c.check.ensures in
    hands-accepted _ _ _ _ _ _ _ room _ accepted _ c.copy_from_slice.ensures.after
