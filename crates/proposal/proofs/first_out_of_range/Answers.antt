-- `proposal::first_out_of_range` meets its contract. Assumes nothing.
use Rattle.std.proofs.Common.{rules, tests}
use Rattle.std.proofs.lemmas.Iterator.{YieldsList-from_slice}
use Rattle.std.proofs.lemmas.Iterator.Search.{position_from_yields_List}
use Rattle.proposal.specs.Loads.{is_out_of_range}
use Rattle.proposal.proofs.Finding.{position-found}
use Rattle.proposal.proofs.first_out_of_range.Goals as goal

pub returns : goal.returns
returns c =
    let yields = YieldsList-from_slice _ c.iter.ensures.rest in
    let test = is_out_of_range c.args.m in
    position-found test _ _ (position_from_yields_List test _ _ c.position.result c.position.ensures.ran yields (λ x b q k. search (rules, tests)))
