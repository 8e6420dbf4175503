-- `relief::relief_of` meets its contract. Assumes nothing.
use Rattle.ground.proofs.Kit.{◌≤◌, ◌≡◌, ◌∙◌, ap, length, rules, Err}
use Rattle.kinds.specs.declared.Settings.{Settings}
use Rattle.kinds.specs.Limits.{most_tasks, most_processors}
use Rattle.relief.specs.Relief.{least_told}
use Rattle.relief.proofs.Telling.{step-low}
use Rattle.relief.proofs.Reliefs.{untold, all_told, may-tell}
use Rattle.relief.proofs.relief_of.Goals as goal

pub returns-in_err-admitted : goal.returns-in_err-admitted
returns-in_err-admitted c =
    let e : c.from_residual.result ≡ Err c.in_err-admitted.field-0.0 = search rules in
    rw e (untold _ _ _ _ c.decide-answer.result c.decide-answer.ensures c.admitted.result c.admitted.ensures _ c.in_err-admitted.was)

pub tell-least-requires : goal.tell-least-requires
tell-least-requires c =
    step-low _ _ _ _ c.decide-answer.result c.decide-answer.ensures

pub one_more-requires : goal.one_more-requires
one_more-requires c =
    let passed : (let args = c.args in (args.settings.m ≤ most_processors) × (args.table.n ≤ most_tasks) × (args.table.n ≤ length args.without.now)) =
    let args = c.args in
    may-tell args.settings args.table.rows args.table.n args.without.now c.decide-answer.result c.decide-answer.ensures
    c.admitted.result c.admitted.ensures c.in_ok-admitted.was in
    passed.0

pub write_without-requires : goal.write_without-requires
write_without-requires c =
    let passed : (let args = c.args in (args.settings.m ≤ most_processors) × (args.table.n ≤ most_tasks) × (args.table.n ≤ length args.without.now)) =
    let args = c.args in
    may-tell args.settings args.table.rows args.table.n args.without.now c.decide-answer.result c.decide-answer.ensures
    c.admitted.result c.admitted.ensures c.in_ok-admitted.was in
    let fits = passed in (fits.1, fits.2)

pub returns : goal.returns
returns c =
    let args = c.args in
    let one = ap (λ (s : Settings). least_told s args.table.rows args.table.n) c.one_more.ensures in
    all_told _ _ _ _ c.decide-answer.result c.decide-answer.ensures c.admitted.result c.admitted.ensures c.in_ok-admitted.was
    _ c.tell-least.ensures _ (c.least_told-more.ensures ∙ one) _ c.write_without.ensures
