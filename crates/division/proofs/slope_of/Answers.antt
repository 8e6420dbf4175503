-- `division::slope_of` meets its contract. Assumes nothing.
use Rattle.division.proofs.Lines.{slope-before, slope-after}
use Rattle.division.proofs.slope_of.Goals as goal

pub returns-then-p-spring : goal.returns-then-p-spring
returns-then-p-spring c = slope-before _ c.requires _ c.if-p-spring.true

pub returns-else-p-spring : goal.returns-else-p-spring
returns-else-p-spring c = slope-after _ c.requires _ c.if-p-spring.false
