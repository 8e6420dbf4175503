-- The springs that a test has loaded and passed may be granted. Assumes nothing.
use Rattle.std.proofs.Common.{rules}
use Rattle.ground.proofs.Kit.{ℕ, true, ◌≡◌, sym, ◌∙◌, ap, arith}
use Rattle.kinds.specs.declared.Policy.TheVariants.{FirstFit}
use Rattle.kinds.specs.declared.Settings.{Settings}
use Rattle.springs.specs.declared.Spring.{Spring}
use Rattle.springs.specs.Spring.{loads_on}
use Rattle.springs.specs.Springs.{spring_in}
use Rattle.springs.proofs.Columns.{springs-beside}
use Rattle.fit.specs.Fit.{load_in}
use Rattle.policy.specs.Passing.{passes}
use Rattle.policy.proofs.Tests.{passes_same}
use Rattle.workable_springs.proofs.tests.plans_are_granted.Goals as goal

pub grant-requires : goal.grant-requires
grant-requires g c =
    let loaded = c.load.ensures in
    let held = c.load.new.self.springs in
    let asked = c.settings.result in
    let s : Settings = record { policy = FirstFit; m = asked.m; swap = asked.swap; notch = asked.notch; edition = asked.edition } in
    let same =
    passes_same FirstFit s.m (loads_on s (spring_in held) 1) (load_in held.loads) held.n
    (λ i l. ap (λ (f : ℕ → Spring). loads_on s f 1 i) (springs-beside _ _ loaded.beside) ∙ sym (loaded.are i (omega (arith, loaded.beside.count)))) in
    let one = ap (λ (m : ℕ). passes FirstFit m (load_in held.loads) held.n) c.settings.ensures.0 in
    let passed : c.passes.result ≡ true = search rules in
    (search rules, search rules, search rules, omega (arith, c.settings.ensures.0), same ∙ (one ∙ (sym c.passes.ensures ∙ passed)))
