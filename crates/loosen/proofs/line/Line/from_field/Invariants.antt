-- `loosen::line::Line::from_field` gives no more than the line has. Assumes nothing.
-- The loop: what is left is no longer than the line.
use Rattle.std.proofs.Common.{◌≤◌, length}
use Rattle.loosen.proofs.line.Line.from_field.Given as goal

abbrev pub invariant-loop : goal.invariant-loop
invariant-loop l = length l.rest ≤ length l.self.text.now
