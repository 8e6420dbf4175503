-- `change_over::section_of` meets its contract. Assumes nothing.
use Rattle.ground.proofs.Kit.{◌∙◌}
use Rattle.plain_finder.specs.Asked.{asked}
use Rattle.change_over.proofs.Sections.{unread, reads, accepts, refuses}
use Rattle.change_over.proofs.section_of.Goals as goal

pub returns-in_err-x : goal.returns-in_err-x
returns-in_err-x c = c.from_residual.ensures ∙ unread _ _ c.read-reading.ensures _ c.accepted.ensures.err c.in_err-x.ensures.value

pub returns-in_err-ok : goal.returns-in_err-ok
unfolding asked
returns-in_err-ok c =
    let read = reads _ _ c.read-reading.ensures (λ x. x.now) _ c.accepted.ensures.ok c.in_ok-x.ensures.value in
    c.from_residual-in_err-ok.ensures ∙ refuses _ _ read _ c.decide.ensures c.in_err-ok.ensures.value

pub returns : goal.returns
unfolding asked
returns c =
    let read = reads _ _ c.read-reading.ensures (λ x. x.now) _ c.accepted.ensures.ok c.in_ok-x.ensures.value in
    accepts _ _ read _ c.decide.ensures c.in_ok-ok.ensures.value
