-- `tidy::hand_on` meets its contract. Assumes nothing.
use Rattle.ground.proofs.Kit.{refl, rules}
use Rattle.std.proofs.lemmas.Result.{err_from_is_err_and}
use Rattle.tidy.proofs.Tidying.{strict-answers, room_for, hands-taken, hands-refused}
use Rattle.tidy.proofs.hand_on.Goals as goal

pub returns-in_err-read : goal.returns-in_err-read
returns-in_err-read c =
    let exit = err_from_is_err_and c.from_residual.result c.from_residual.ensures.1 in
    rw (exit.1, exit.2) (hands-refused _ _ _ (strict-answers _ _ c.in_err-read.ensures) _ refl)

pub put_bytes-requires : goal.put_bytes-requires
put_bytes-requires c =
    room_for _ c.args.out.now _ (strict-answers _ _ c.in_ok-read.ensures) _ refl (search rules)

pub returns : goal.returns
returns c =
    hands-taken _ _ _ (strict-answers _ _ c.in_ok-read.ensures) _ refl (search rules) _ _ c.put_bytes.ensures
