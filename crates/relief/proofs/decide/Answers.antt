-- `relief::decide` meets its contract. Assumes nothing.
use Rattle.ground.proofs.Kit.{◌≡◌, false, sym, ◌∙◌}
use Rattle.kinds.specs.Policy.{meant, is_first_fit}
use Rattle.relief.proofs.Telling.{found-serves}
use Rattle.relief.proofs.decide.Goals as goal

pub returns : goal.returns
returns c =
    let args = c.args in
    let weighed : is_first_fit (meant args.settings.policy) ≡ false =
    rw (← c.meant-policy.ensures) (sym c.is_first_fit.ensures ∙ c.if-is_first_fit.false) in
    c.decide-2.ensures ∙ sym (found-serves args.settings args.table.rows args.table.n args.room weighed)
