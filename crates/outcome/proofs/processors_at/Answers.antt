-- `outcome::processors_at` meets its contract. Assumes nothing.
use Rattle.ground.proofs.Kit.{ℕ, sym, ◌∙◌, subst, arith}
use Rattle.kinds.specs.Policy.{meant}
use Rattle.fit.specs.Fit.{load_in}
use Rattle.fit.specs.Handover.{FitIs}
use Rattle.springs.specs.Spring.{loads_on}
use Rattle.springs.specs.Springs.{spring_in}
use Rattle.policy.proofs.Tests.{passes_same}
use Rattle.springs.proofs.Columns.{beside_same, beside-loads, loaded-low, loads-most}
use Rattle.policy.proofs.Weighing.{loaded-loads}
use Rattle.outcome.proofs.Processors.{trial-processors, any-processors, processors-same}
use Rattle.outcome.proofs.processors_at.Goals as goal

pub load-requires : goal.load-requires
load-requires c = c.requires.chargeable

pub first_fit-trial-requires : goal.first_fit-trial-requires
first_fit-trial-requires c =
    let s = c.load.new.self in
    (loaded-loads _ c.args.springs.now s (loads-most c.args.settings c.args.springs.now c.requires.chargeable c.args.k) c.load.ensures, omega (arith, s.few, c.load.ensures.long), c.requires.m-most)

pub returns-then-is_first_fit : goal.returns-then-is_first_fit
returns-then-is_first_fit c =
    let settings = c.args.settings in
    let policy = meant settings.policy in
    let n = c.args.springs.now.n in
    let first = sym (rw c.meant-policy.ensures at c.is_first_fit.ensures) ∙ c.if-is_first_fit.true in
    let are = c.load.ensures.are in
    let passing = passes_same policy settings.m _ _ n are ∙ c.requires.passing in
    let trial = subst (λ (x : ℕ). FitIs settings.m (load_in c.load.new.self.loads) x c.first_fit-trial.result) c.load.ensures.beside.count
    c.first_fit-trial.ensures in (
      trial-processors policy settings.m _ _ c.first_fit-trial.result first passing trial ∙ processors-same policy settings.m _ _ n are,
      loaded-low _ _ c.args.springs.now c.load.new.self c.load.ensures (loads-most settings c.args.springs.now c.requires.chargeable c.args.k),
      beside-loads c.args.springs.now c.load.new.self _ _ c.load.ensures.beside,
    )

pub returns : goal.returns
returns c =
    let settings = c.args.settings in
    let s = c.args.springs.now in
    let other = sym (rw c.meant-policy.ensures at c.is_first_fit.ensures) ∙ c.if-is_first_fit.false in
    (any-processors (meant settings.policy) settings.m (loads_on settings (spring_in s) c.args.k) _ s.few other, λ h. h, beside_same s)
