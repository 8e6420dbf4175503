-- `numeral::run_of` meets its contract: all bytes so far are digits, and their value is at hand. Assumes nothing.
use Rattle.ground.proofs.Kit.{◌≡◌, sym, ◌∙◌, arith, length, get_or}
use Rattle.numeral.proofs.Scan.{digit-is, going-none, going-end, going-stop, going_more}
use Rattle.numeral.proofs.run_of.Goals as goal

pub loop-i-init : goal.loop-i-init
loop-i-init c = going-none _

pub returns-then-not-is_ascii_digit : goal.returns-then-not-is_ascii_digit
returns-then-not-is_ascii_digit c =
    going-stop _ _ _ c.loop-i.invariant c.loop-i-test.true (sym c.is_ascii_digit.ensures.value ∙ c.if-not-is_ascii_digit.true)

pub overflow_sub-digit : goal.overflow_sub-digit
overflow_sub-digit c = omega (arith, digit-is (get_or c.args.s.now c.loop-i.i 0) (sym c.is_ascii_digit.ensures.value ∙ c.if-not-is_ascii_digit.false))

pub loop-i-preserved : goal.loop-i-preserved
loop-i-preserved c =
    let digit = sym c.is_ascii_digit.ensures.value ∙ c.if-not-is_ascii_digit.false in
    going_more _ _ _ c.loop-i.invariant c.loop-i-test.true digit _ (omega (arith, c.min-value.ensures))

pub returns : goal.returns
returns c =
    let e : c.loop-i.i ≡ length c.args.s.now = omega arith in
    rw e at (going-end _ _ _ c.loop-i.invariant e)
