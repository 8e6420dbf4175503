-- `proposal::before_overfull` meets its contract. Assumes nothing.
use Rattle.std.proofs.Common.{rules, tests}
use Rattle.std.proofs.lemmas.Iterator.{YieldsList-from_slice}
use Rattle.std.proofs.lemmas.Iterator.Search.{position_from_yields_List}
use Rattle.proposal.specs.Loads.{is_overfull}
use Rattle.proposal.proofs.Finding.{position-found}
use Rattle.proposal.proofs.before_overfull.Goals as goal

pub returns : goal.returns
returns c =
    let yields = YieldsList-from_slice _ c.iter.ensures.rest in
    position-found is_overfull _ _ (position_from_yields_List is_overfull _ _ c.position.result c.position.ensures.ran yields (λ x b q k. search (rules, tests)))
