-- `numeral::put_decimal` meets its contract: a number below 10 is one digit, and a longer one is its tenth's digits and one more. Assumes
-- nothing.
use Rattle.ground.proofs.Kit.{arith, rules}
use Rattle.numeral.proofs.Digits.{one-long, more-long, puts_one, puts-more}
use Rattle.numeral.proofs.+put_decimal.Goals as goal

pub bounds-out-at : goal.bounds-out-at
bounds-out-at t c = omega (arith, one-long c.args.n c.if-n-lt10.true)

pub returns-then-n-lt10 : goal.returns-then-n-lt10
returns-then-n-lt10 t c = puts_one _ _ _ c.if-n-lt10.true

pub put_decimal-next-requires : goal.put_decimal-next-requires
put_decimal-next-requires t c = let longer = more-long c.args.n c.if-n-lt10.false in search rules

pub bounds-out-next : goal.bounds-out-next
bounds-out-next t c = omega (arith, more-long c.args.n c.if-n-lt10.false, c.put_decimal-next.ensures.next-is)

pub overflow_add-result-2 : goal.overflow_add-result-2
overflow_add-result-2 t c = omega (arith, more-long c.args.n c.if-n-lt10.false, c.put_decimal-next.ensures.next-is)

pub returns : goal.returns
returns t c = puts-more _ _ _ _ _ c.if-n-lt10.false c.put_decimal-next.ensures
