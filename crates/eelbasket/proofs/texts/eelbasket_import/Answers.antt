-- `eelbasket::texts::eelbasket_import` meets its contract: the table that the text is read into finds room in the lent records, and its rows are handed
-- over to them. Assumes nothing.
use Rattle.eelbasket.proofs.Imports.{room-enough, told-imports}
use Rattle.eelbasket.proofs.texts.eelbasket_import.Goals as goal

pub scatter-requires : goal.scatter-requires
scatter-requires c = room-enough _ _ _ c.import_told-imported.ensures

pub returns : goal.returns
returns c = told-imports _ _ _ c.import_told-imported.ensures _ c.scatter.ensures
