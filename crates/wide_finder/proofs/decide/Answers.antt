-- `wide_finder::decide` meets its contract. Assumes nothing.
use Rattle.ground.proofs.Kit.{◌≡◌, ap, ◌∙◌, Err}
use Rattle.kinds.specs.Answer.{handed}
use Rattle.std.proofs.Common.{rules}
use Rattle.wide_finder.proofs.Found.{refused-found, admitted-found}
use Rattle.wide_finder.proofs.decide.Goals as goal

pub returns-in_err-admitted : goal.returns-in_err-admitted
returns-in_err-admitted c =
    let refused = refused-found c.args.m c.args.table.rows c.args.table.n c.args.room _ c.in_err-admitted.ensures.refuses in
    let is : c.from_residual.result ≡ Err c.in_err-admitted.field-0.0 = search rules in
    ap handed is ∙ refused

pub returns : goal.returns
returns c =
    ap handed c.ok_or.ensures.value ∙ admitted-found _ _ _ _ c.in_ok-admitted.ensures.admits _ c.least_step.ensures
