-- `fill::fill` meets its contract. Assumes nothing.
use Rattle.refusal_line.proofs.Fronts.{line_written}
use Rattle.fill.proofs.Fills.{tells}
use Rattle.fill.proofs.fill.Goals as goal

pub returns : goal.returns
returns c =
    line_written _ _ _ _ _ _ (tells _ _ _ _ c.fill_in.ensures) c.count_or_line.ensures
