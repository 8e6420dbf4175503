-- `plain_finder::least_charged` meets its contract. The loop: no step before this one passes, nothing but loads has moved, and
-- none of them to above S. Assumes nothing.
use Rattle.ground.proofs.Kit.{ℕ, ◌+◌, ◌<◌, Bool, false, ◌≡◌, sym, ◌∙◌, ap, arith}
use Rattle.ground.proofs.First.{first_more}
use Rattle.ground.proofs.Least.{least-here, least-none}
use Rattle.springs.specs.Spring.{charges_on}
use Rattle.springs.specs.Springs.{spring_in}
use Rattle.springs.specs.declared.Springs.{Springs}
use Rattle.springs.specs.Handover.{Beside, StaysLow}
use Rattle.springs.proofs.Columns.{beside-more, still-chargeable}
use Rattle.policy.specs.declared.Test.{Test}
use Rattle.policy.specs.Passing.{passes_at, least_step}
use Rattle.plain_finder.proofs.Stepping.{test-beside}
use Rattle.plain_finder.proofs.least_charged.Goals as goal
use Rattle.plain_finder.proofs.least_charged.Goals.{After-passes_charged, Else-passes_charged}

-- the test of a step
abbrev test : Test → Springs → ℕ → Bool
test t s = passes_at t.policy t.m (charges_on s.notch (spring_in s)) s.n

-- what was asked of the springs is asked of them as they came
tested : (c : After-passes_charged) → c.passes_charged.result ≡ test c.args.test c.args.springs.now c.loop-step.step
tested c =
    let t = c.args.test in
    let s = c.args.springs.now in
    let now = c.loop-step.springs in
    let b = c.loop-step.invariant.0 in
    let notch = ap (λ (q : ℕ). passes_at t.policy t.m (charges_on q (spring_in now)) now.n c.loop-step.step) b.notch in
    c.passes_charged.ensures.0 ∙ (notch ∙ test-beside s now b t.policy t.m (charges_on s.notch) c.loop-step.step)

moved : (c : After-passes_charged) → Beside c.args.springs.now c.passes_charged.new.springs
moved c = beside-more _ _ _ c.loop-step.invariant.0 c.passes_charged.ensures.2

stays : (c : After-passes_charged) → StaysLow c.args.springs.now c.passes_charged.new.springs
stays c h = c.passes_charged.ensures.1 (c.loop-step.invariant.2 h)

-- no step up to this one passes
failed : (c : Else-passes_charged) → (j : ℕ) → j < c.loop-step.step + 1 → test c.args.test c.args.springs.now j ≡ false
failed c =
    first_more (test c.args.test c.args.springs.now) 0 _ c.loop-step.invariant.1
    (sym (tested c.before) ∙ c.if-passes_charged.false)

pub passes_charged-requires : goal.passes_charged-requires
passes_charged-requires c = still-chargeable _ _ c.loop-step.invariant.0 c.requires

pub returns-then-passes_charged : goal.returns-then-passes_charged
unfolding least_step
returns-then-passes_charged c =
    let last = c.full_compression-full.ensures in
    let passed = sym (tested c.before) ∙ c.if-passes_charged.true in (
      record {
        least = least-here (test c.args.test c.args.springs.now) _ _ c.loop-step.invariant.1
            (omega (arith, last, c.loop-step-test.true)) passed;
        beside = moved c.before;
      },
      stays c.before,
    )

pub returns-else-passes_charged : goal.returns-else-passes_charged
unfolding least_step
returns-else-passes_charged c =
    let last = c.full_compression-full.ensures in (
      record {
        least = least-none (test c.args.test c.args.springs.now) _ _ (failed c.before) (omega (arith, last));
        beside = moved c.before.before;
      },
      stays c.before.before,
    )

pub loop-step-preserved : goal.loop-step-preserved
loop-step-preserved c = (moved c.before.before, failed c.before, stays c.before.before)
