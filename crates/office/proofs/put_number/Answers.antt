-- `office::put_number` meets its contract. Assumes nothing.
use Rattle.ground.proofs.Kit.{ℕ, ap, arith, length}
use Rattle.numeral.specs.Decimal.{decimal}
use Rattle.office.proofs.Widths.{number-long, puts-number}
use Rattle.office.proofs.put_number.Goals as goal

pub put_decimal-next-requires : goal.put_decimal-next-requires
put_decimal-next-requires c = omega (arith, number-long c.args.v c.args.end, ap (λ (v : ℕ). length (decimal v)) c.from.ensures)

pub bounds-out-next : goal.bounds-out-next
bounds-out-next c = omega (arith, number-long c.args.v c.args.end, ap (λ (v : ℕ). length (decimal v)) c.from.ensures, c.put_decimal-next.ensures.next-is, c.requires)

pub overflow_add-result : goal.overflow_add-result
overflow_add-result c = omega (arith, number-long c.args.v c.args.end, ap (λ (v : ℕ). length (decimal v)) c.from.ensures, c.put_decimal-next.ensures.next-is, c.requires)

pub returns : goal.returns
returns c = rw (← c.from.ensures) (puts-number _ _ _ _ _ _ c.put_decimal-next.ensures)
