-- `c_sheets::write_back_told` meets its contract: `all_bytes` says that what was lent is bytes, which the law of the way back asks.
-- Assumes nothing.
use native.Mathlib.Omega.{arith}
use Rattle.c_sheets.proofs.Back.{unread-back, written_back}
use Rattle.c_sheets.proofs.write_back_told.Goals as goal

pub returns-then-reading-ne0 : goal.returns-then-reading-ne0
returns-then-reading-ne0 c =
    unread-back c.args.bytes.now c.read_told-reading.result c.read_told-reading.ensures c.args.out.now c.if-reading-ne0.true

pub returns : goal.returns
returns c =
    written_back c.args.bytes.now c.read_told-reading.result c.read_told-reading.ensures c.args.out.now
    c.all_bytes.ensures (omega (arith, c.if-reading-ne0.false)) _ _ c.write_told.ensures
