-- `proposal::check` meets its contract. Assumes nothing.
use Rattle.ground.proofs.Kit.{ℕ, List, ◌++◌, ◌≡◌, sym, ◌∙◌, ap, refl, arith, rules, drop, length-take-le, Err, Some, None}
use Rattle.proposal.specs.Loads.{is_out_of_range, first_out_of_range, is_overfull}
use Rattle.proposal.proofs.Finding.{found-front}
use Rattle.proposal.proofs.Admitting.{checked}
use Rattle.proposal.proofs.Calls.{may_load, counted, refused-meets, out-of-range-meets, overfull-meets, well-meets}
use Rattle.proposal.proofs.check.Goals as goal

pub returns-in_err-admit : goal.returns-in_err-admit
returns-in_err-admit c =
    let e : c.from_residual.result ≡ Err c.in_err-admit.field-0.0 = search rules in
    rw e (refused-meets _ _ _ _ _ _ _ (rw c.in_err-admit.was at c.admit.ensures.0.is) _ refl)

pub slice_bounds-first_out_of_range-end : goal.slice_bounds-first_out_of_range-end
slice_bounds-first_out_of_range-end c =
    let w = checked _ _ _ _ _ _ _ _ c.admit.ensures.0 c.in_ok-admit.was in
    sym (length-take-le _ _ w.entries)

pub returns-in-Some : goal.returns-in-Some
unfolding first_out_of_range
returns-in-Some c =
    let w = checked _ _ _ _ _ _ _ _ c.admit.ensures.0 c.in_ok-admit.was in
    let found = found-front (is_out_of_range c.args.settings.m) c.args.proposal.now _ w.entries (Some c.in-Some.task) (rw c.in-Some.is at c.first_out_of_range.ensures) in
    out-of-range-meets _ _ _ _ _ _ w.admits _ found.1 found.0

pub loads_of-held-requires : goal.loads_of-held-requires
unfolding first_out_of_range
loads_of-held-requires c =
    let w = checked _ _ _ _ _ _ _ _ c.admit.ensures.0 c.in_ok-admit.was in
    let each = found-front (is_out_of_range c.args.settings.m) c.args.proposal.now _ w.entries None (rw c.in_default.is at c.first_out_of_range.ensures) in
    may_load _ _ _ _ _ _ w.held w.entries each

pub returns-in-Some-before_overfull : goal.returns-in-Some-before_overfull
unfolding first_out_of_range
returns-in-Some-before_overfull c =
    let m = c.args.settings.m in
    let w = checked _ _ _ _ _ _ _ _ c.admit.ensures.0 c.in_ok-admit.was in
    let each = found-front (is_out_of_range m) c.args.proposal.now _ w.entries None (rw c.in_default.is at c.first_out_of_range.ensures) in
    let held = counted _ _ _ _ _ _ _ w.held c.loads_of-held.ensures in
    let found = found-front is_overfull c.loads_of-held.result m held.long (Some c.in-Some-before_overfull.below)
    (rw (c.in-Some-before_overfull.is, c.from-processors.ensures) at c.before_overfull.ensures) in
    overfull-meets _ _ _ _ _ _ w.admits each _ (found.1 ∙ held.lowest) found.0

pub slice_bounds-copy_from_slice-end : goal.slice_bounds-copy_from_slice-end
slice_bounds-copy_from_slice-end c =
    let w = checked _ _ _ _ _ _ _ _ c.admit.ensures.0 c.in_ok-admit.was in
    omega (arith, w.roomy, c.from-processors.ensures)

pub slice_bounds-copy_from_slice-end-2 : goal.slice_bounds-copy_from_slice-end-2
slice_bounds-copy_from_slice-end-2 c =
    let w = checked _ _ _ _ _ _ _ _ c.admit.ensures.0 c.in_ok-admit.was in
    sym (length-take-le _ _ (omega (arith, w.roomy, c.from-processors.ensures)))

pub copy_from_slice-requires : goal.copy_from_slice-requires
copy_from_slice-requires c =
    let w = checked _ _ _ _ _ _ _ _ c.admit.ensures.0 c.in_ok-admit.was in
    let held = counted _ _ _ _ _ _ _ w.held c.loads_of-held.ensures in
    length-take-le _ _ (omega (arith, w.roomy, c.from-processors.ensures))
    ∙ sym (length-take-le _ _ (omega (arith, held.long, c.from-processors.ensures)))

pub returns : goal.returns
unfolding first_out_of_range
returns c =
    let m = c.args.settings.m in
    let w = checked _ _ _ _ _ _ _ _ c.admit.ensures.0 c.in_ok-admit.was in
    let each = found-front (is_out_of_range m) c.args.proposal.now _ w.entries None (rw c.in_default.is at c.first_out_of_range.ensures) in
    let held = counted _ _ _ _ _ _ _ w.held c.loads_of-held.ensures in
    let none = found-front is_overfull c.loads_of-held.result m held.long None
    (rw (c.in_default-before_overfull.is, c.from-processors.ensures) at c.before_overfull.ensures) in
    let written = (rw c.from-processors.ensures at c.copy_from_slice.ensures.after) ∙ held.front in
    well-meets _ _ _ _ _ _ w.admits each (omega (arith, none, held.lowest)) _
    (rw c.from-processors.ensures (ap (λ (x : List ℕ). x ++ drop m c.args.loads.now) written))
