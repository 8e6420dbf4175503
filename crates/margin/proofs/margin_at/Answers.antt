-- `margin::margin_at` meets its contract. Assumes nothing.
use Rattle.ground.proofs.Kit.{ℕ, ◌<◌, false, ◌≡◌, ◌∙◌, ap, arith, rules, Err}
use Rattle.kinds.specs.Answer.{accepted}
use Rattle.springs.proofs.Columns.{loads-are, loads-most}
use Rattle.fit.specs.Fit.{load_in}
use Rattle.policy.specs.Sides.{margin_of}
use Rattle.policy.specs.Under.{loads_under}
use Rattle.policy.proofs.Tests.{margin-same}
use Rattle.policy.proofs.Weighing.{loaded-loads}
use Rattle.admission.proofs.Chain.{passed-weighed}
use Rattle.admission.proofs.Opened.{opened}
use Rattle.margin.specs.Margin.{margin_handed}
use Rattle.margin.proofs.margin_at.Goals as goal

pub returns-in_err-admit : goal.returns-in_err-admit
unfolding margin_handed
returns-in_err-admit c =
    let e : c.from_residual.result ≡ Err c.in_err-admit.field-0.0 = search rules in
    rw (e, ← c.admit.ensures.0.is, c.in_err-admit.was)

pub load-requires : goal.load-requires
load-requires c = (opened false _ _ _ _ _ _ c.admit.ensures.0 c.in_ok-admit.was).chargeable

pub invariant_of-test : goal.invariant_of-test
invariant_of-test c =
    let passed = (opened false _ _ _ _ _ _ c.admit.ensures.0 c.in_ok-admit.was).ready.passed in
    record { some = passed.m-some; few = passed.m-most; served = λ e. rw c.meant.ensures (passed-weighed _ _ _ _ passed) }

pub margin-requires : goal.margin-requires
margin-requires c =
    let begun = opened false _ _ _ _ _ _ c.admit.ensures.0 c.in_ok-admit.was in (
      loaded-loads _ _ _ (loads-most c.args.settings _ begun.chargeable c.args.step) c.load.ensures,
      rw c.meant.ensures (passed-weighed _ _ _ _ begun.ready.passed),
    )

pub returns : goal.returns
unfolding margin_handed
returns c =
    let args = c.args in
    let n = args.table.n in
    let begun = opened false _ _ _ _ _ _ c.admit.ensures.0 c.in_ok-admit.was in
    let load = loads_under args.settings args.table.rows n args.step in
    let loaded = c.load.ensures in
    let are : (i : ℕ) → i < n → load_in c.load.new.self.loads i ≡ load i =
    λ i l. loaded.are i (omega (arith, begun.sprung.count)) ∙ loads-are _ _ _ begun.sprung args.settings args.step i l in
    let all = ap (λ (x : ℕ). margin_of c.meant.result args.settings.m (load_in c.load.new.self.loads) x) (loaded.beside.count ∙ begun.sprung.count) in
    let same = margin-same _ _ (load_in c.load.new.self.loads) load _ are in
    rw (← c.admit.ensures.0.is, c.in_ok-admit.was, ← c.meant.ensures) (ap accepted (search rules ∙ (c.margin.ensures ∙ (all ∙ same))))
