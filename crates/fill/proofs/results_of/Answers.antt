-- `fill::results_of` meets its contract. Assumes nothing.
use Rattle.ground.proofs.Kit.{ℕ, rules, ltb}
use Rattle.ground.specs.Choice.{pick}
use Rattle.sheet.specs.Rows.{no_granted}
use Rattle.fill.specs.Results.{entry_at}
use Rattle.fill.proofs.Made.{made_at}
use Rattle.fill.proofs.Plans.{results-are}
use Rattle.fill.proofs.results_of.Goals as goal

pub returns : goal.returns
returns c =
    results-are c.args.periods c.args.processors c.args.n _ c.requires c.from_fn-rows.ensures.items.long
    (made_at c.from_fn-rows.ensures.items (λ (i : ℕ). pick (ltb i c.args.n) (entry_at c.args.periods c.args.processors i) no_granted)
    (λ i y q k. search rules))
