-- `wide_finder::find` meets its contract. Assumes nothing.
use Rattle.ground.proofs.Kit.{◌≡◌, sym, ◌∙◌, ap, arith, Err}
use Rattle.std.proofs.Common.{rules}
use Rattle.kinds.specs.Answer.{handed}
use Rattle.wide_finder.proofs.Found.{refused-found, admitted-found, step-in, room-in, cores-fit-in, meets-refused, meets-accepted}
use Rattle.wide_finder.proofs.find.Goals as goal

pub returns-in_err-admitted : goal.returns-in_err-admitted
returns-in_err-admitted c =
    let is : c.from_residual.result ≡ Err c.in_err-admitted.field-0.0 = search rules in
    rw is (meets-refused _ c.args.table _ _ _ c.min.ensures _ (refused-found _ _ _ _ _ c.in_err-admitted.ensures.refuses))

pub returns-in_err-k : goal.returns-in_err-k
returns-in_err-k c =
    let is : c.from_residual-in_err-k.result ≡ Err c.in_err-k.field-0.0 = search rules in
    let found = admitted-found _ c.args.table _ _ c.in_ok-admitted.ensures.admits _ c.least_step.ensures in
    rw is (meets-refused _ c.args.table _ _ _ c.min.ensures _ (ap handed (sym c.in_err-k.was ∙ c.ok_or.ensures.value) ∙ found))

pub write_periods-requires : goal.write_periods-requires
write_periods-requires c = omega (arith, room-in _ _ _ _ c.in_ok-admitted.ensures.admits)

pub write_cores-requires-clause-room : goal.write_cores-requires-clause-room
write_cores-requires-clause-room c = omega (arith, room-in _ _ _ _ c.in_ok-admitted.ensures.admits)

pub write_cores-requires-clause-fit : goal.write_cores-requires-clause-fit
write_cores-requires-clause-fit c =
    let step = step-in _ _ (sym c.ok_or.ensures.value ∙ c.in_ok-k.was) in
    cores-fit-in _ _ _ _ c.in_ok-admitted.ensures.admits _ (sym step ∙ c.least_step.ensures)

pub returns : goal.returns
returns c =
    let step = step-in _ _ (sym c.ok_or.ensures.value ∙ c.in_ok-k.was) in
    meets-accepted _ c.args.table _ _ _ c.min.ensures _ _ _ _ c.in_ok-admitted.ensures.admits (sym step ∙ c.least_step.ensures)
    c.write_periods.ensures c.write_cores.ensures
