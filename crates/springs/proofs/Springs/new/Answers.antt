-- `springs::Springs::new` meets its contract. Assumes nothing.
use Rattle.ground.proofs.Kit.{refl, arith}
use Rattle.springs.proofs.Columns.{none-at-most}
use Rattle.springs.proofs.Springs.new.Goals as goal

pub returns : goal.returns
returns c = (record { count = refl; notch = refl }, record { allowed = λ i l. absurd (omega arith); low = none-at-most _ })
