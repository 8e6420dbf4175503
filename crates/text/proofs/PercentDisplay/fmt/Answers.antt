-- `Percent` divides by a power of ten, which is not 0. Assumes nothing.
use Rattle.std.proofs.Common.{◌-◌, arith}
use Rattle.std.proofs.Math.Nat.{one-le-pow}
use Rattle.text.proofs.PercentDisplay.fmt.Goals as goal

pub nonzero_div-rest : goal.nonzero_div-rest
nonzero_div-rest g c = omega (arith, c.pow.ensures, one-le-pow (4 - c.min-decimals.result) 10 (omega arith))
