-- `sheet::row::Row::put` of a result meets its contract. Assumes nothing.
use Rattle.field.proofs.Stores.{put_then}
use Rattle.sheet.specs.Rows.{granted_bytes}
use Rattle.sheet.proofs.row.GrantedRow.put.Goals as goal

pub returns : goal.returns
unfolding granted_bytes
returns c = put_then c.put-at_processor.ensures c.put.ensures
