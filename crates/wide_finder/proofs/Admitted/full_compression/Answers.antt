-- `wide_finder::Admitted::full_compression` meets its contract. Assumes nothing.
use Rattle.ground.proofs.Kit.{ℕ, sym, ◌∙◌, ap, Option}
use Rattle.std.proofs.Common.{rules, tests}
use Rattle.std.specs.Option.{unwrap_or}
use Rattle.std.proofs.lemmas.Iterator.{YieldsList-from_slice, YieldsList-from_map}
use Rattle.std.proofs.lemmas.Iterator.Adapters.{option_map_id}
use Rattle.std.proofs.lemmas.Iterator.Consumers.{max_from_yields_List}
use Rattle.ground.proofs.Lists.{max-list}
use Rattle.wide_task.specs.WideTask.{no_wide_task}
use Rattle.wide_task.specs.Cores.{saturation_at}
use Rattle.wide_finder.proofs.Tables.{full-done}
use Rattle.wide_finder.proofs.Admitted.full_compression.Goals as goal

pub returns : goal.returns
unfolding saturation_at
returns c =
    let rows = c.args.self.now.rows.now in
    let most =
    max_from_yields_List c.map.result c.max.result c.max.ensures.ran
    (YieldsList-from_map _ saturation_at (YieldsList-from_slice rows (cc)) c.map.ensures.closure (λ x r q k. search (rules, tests))) in
    full-done rows _ _ (λ i l. c.args.self.now.good i no_wide_task l)
    (c.unwrap_or.ensures ∙ (ap (λ (o : Option ℕ). unwrap_or o 0) (sym (option_map_id c.max.result) ∙ most) ∙ max-list no_wide_task saturation_at rows))
