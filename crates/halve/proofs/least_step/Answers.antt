-- `halve::least_step` meets its contract. The loop: the least step that passes is one of those left, nothing but loads has moved, none of
-- them to above S, and what is left falls. Assumes nothing.
use Rattle.ground.proofs.Kit.{ℕ, ◌≤◌, Bool, ◌≡◌, ◌∙◌, ap, arith}
use Rattle.ground.proofs.Halving.{counted-all}
use Rattle.springs.specs.Springs.{spring_in}
use Rattle.springs.specs.declared.Springs.{Springs}
use Rattle.springs.proofs.Columns.{beside_same, beside-more, still-chargeable, full-low}
use Rattle.policy.specs.declared.Weights.{Weights}
use Rattle.policy.specs.Weighed.{charged_at}
use Rattle.halve.specs.Halves.{half}
use Rattle.halve.proofs.Going.{going-few, going_on, going-found, going-none, charged-rising, charged-beside}
use Rattle.halve.proofs.least_step.Goals as goal
use Rattle.halve.proofs.least_step.Goals.{After-full_compression-full, After-look-range}

-- the test of a step
abbrev test : Weights → Springs → ℕ → Bool
test w s = charged_at w s.notch (spring_in s) s.n

-- full compression is low
low : (c : After-full_compression-full) → c.full_compression-full.result ≤ 999999
low c = omega (arith, c.full_compression-full.ensures, full-low c.args.springs.now.notch c.args.springs.now c.requires.1)

-- a look tests the springs as they came
halved : (c : After-look-range) → c.look-range.result ≡ half (test c.args.w c.args.springs.now) c.loop-range.range
halved c =
    c.look-range.ensures.0 ∙ ap (λ (t : ℕ → Bool). half t c.loop-range.range) (charged-beside c.args.w _ _ c.loop-range.invariant.1)

pub overflow_add-none : goal.overflow_add-none
overflow_add-none c = omega (arith, low c)

pub loop-range-init : goal.loop-range-init
loop-range-init c = (counted-all (test c.args.w c.args.springs.now) _, beside_same _, λ h. h)

pub look-range-requires : goal.look-range-requires
look-range-requires c =
    let going = c.loop-range.invariant.0 in (
      c.requires.0,
      still-chargeable _ _ c.loop-range.invariant.1 c.requires.1,
      c.loop-range-test.true,
      omega (arith, going.halved.last, low c.before.before.before.before),
      going-few (test c.args.w c.args.springs.now) _ c.loop-range.range (low c.before.before.before.before) going,
    )

pub loop-range-preserved : goal.loop-range-preserved
loop-range-preserved c =
    let rising = charged-rising c.args.w c.args.springs.now c.requires.1 in (
      rw (halved c) (going_on (test c.args.w c.args.springs.now) c.loop-range.range c.loop-range-test.true _ rising c.loop-range.invariant.0),
      beside-more _ _ _ c.loop-range.invariant.1 c.look-range.ensures.2,
      λ h. c.look-range.ensures.1 (c.loop-range.invariant.2 h),
    )

pub returns-then-range-full : goal.returns-then-range-full
returns-then-range-full c =
    let ends = going-found (test c.args.w c.args.springs.now) _ c.loop-range.range c.loop-range.invariant.0 c.loop-range-test.false in
    (rw (← c.full_compression-full.ensures) (ends c.if-range-full.true), c.loop-range.invariant.2, c.loop-range.invariant.1)

pub returns : goal.returns
returns c =
    let ends = going-none (test c.args.w c.args.springs.now) _ c.loop-range.range c.loop-range.invariant.0 c.loop-range-test.false in
    (rw (← c.full_compression-full.ensures) (ends c.if-range-full.false), c.loop-range.invariant.2, c.loop-range.invariant.1)
