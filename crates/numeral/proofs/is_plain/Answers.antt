-- `numeral::is_plain` meets its contract, by the count of digits. Assumes nothing.
use Rattle.ground.proofs.Kit.{sym, arith}
use Rattle.numeral.proofs.Scan.{plain-none, plain-one, plain_more}
use Rattle.numeral.proofs.is_plain.Goals as goal

pub returns-in-empty : goal.returns-in-empty
returns-in-empty c = sym (plain-none _ (omega arith))

pub returns-in-len1 : goal.returns-in-len1
returns-in-len1 c = sym (plain-one _ (omega arith))

pub returns-in-len1-up : goal.returns-in-len1-up
returns-in-len1-up c = sym (plain_more _ (omega arith))
