-- Joins and leaves in numbers that cross to C.
-- Assumes nothing.
use Rattle.kinds.specs.Answer.{Handed}
use Rattle.keep.specs.declared.Kept.{Kept}
use Rattle.c_kept.specs.declared.ToldChange.{ToldChange}

abbrev pub told_change : ToldChange → Handed Kept
told_change r = record { number = r.number; place = r.place; value = r.kept }
