-- `numeral::width` meets its contract, by the power of ten that the number reaches. Assumes nothing.
use Rattle.ground.proofs.Kit.{ℕ, ◌+◌, ◌*◌, ◌^◌, ◌≤◌, ◌<◌, ◌≡◌, Option, Some, None, arith}
use Rattle.std.specs.Prelude.{IfNone, IfSome, unwrap_or}
use Rattle.numeral.specs.Decimal.{decimal}
use Rattle.numeral.specs.Handover.{Sized}
use Rattle.numeral.proofs.Digits.{one-long, long-by_power, few-digits}
use Rattle.numeral.proofs.width.Goals as goal

sized : (n r : ℕ) (power : Option ℕ) → n < 4294967296 → IfNone power (n ≡ 0) → IfSome power (λ k. 10 ^ k ≤ n) → IfSome power (λ k. n < 10 * 10 ^ k)
    → r ≡ unwrap_or power 0 → Sized (decimal n) 10 (1 + r)
sized n r None f z l h e =
    let one = one-long n (omega arith) in
    record { is = omega arith; few = omega arith }
sized n r (Some k) f z l h e =
    let long = long-by_power k n l h in
    let few = few-digits 9 n (omega arith) in
    record { is = omega arith; few = omega arith }

pub returns : goal.returns
returns c =
    let power = c.checked_ilog10.ensures in
    sized _ _ _ c.ranges.n.fits power.none power.power_le power.next_power_gt c.unwrap_or.ensures
