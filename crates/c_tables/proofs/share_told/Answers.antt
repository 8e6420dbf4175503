-- `c_tables::share_told` meets its contract. Assumes nothing.
use Rattle.ground.proofs.Kit.{◌≡◌, arith}
use Rattle.share.specs.Share.{share_under}
use Rattle.c_numbers.specs.Numbers.{station_settings}
use Rattle.c_tables.proofs.Shares.{shared-most}
use Rattle.c_tables.proofs.share_told.Goals as goal

pub overflow_cast-result : goal.overflow_cast-result
overflow_cast-result c =
    let args = c.args in
    let share : c.share_at-share.result.parts ≡ share_under (station_settings args.station) args.task args.step =
    rw c.into.ensures at c.share_at-share.ensures in
    omega (arith, share, shared-most (station_settings args.station) args.task args.step)
