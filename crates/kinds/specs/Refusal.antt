-- The numbers we hand back, and the place that comes with each.
-- Assumes nothing.
use Rattle.std.specs.Prelude.{ℕ}
use Rattle.kinds.specs.declared.Numbered.{Numbered}
use Rattle.kinds.specs.declared.Refusal.{Refusal}
use Rattle.kinds.specs.declared.Refusal.TheVariants.{NoSuchPolicy, Misset, TooManyTasks, PolicyNotServed, OutputTooShort}
use Rattle.kinds.specs.declared.Refusal.TheVariants.{BadRecord, NoStepPasses, SheetEnds, WrongSettingsCount, WrongResultCount}
use Rattle.kinds.specs.declared.Refusal.TheVariants.{BytesAfterLast, NoSuchRecord, ProcessorOutOfRange, ProcessorOverfull, PolicyWithdrawn}
use Rattle.kinds.specs.declared.Refusal.TheVariants.{BadLine, BadPeriod, NoResults, WrongResult}

-- number and place of each, a line for each
abbrev pub handed_back : Refusal → Numbered
handed_back NoSuchPolicy = (1, 0)
handed_back Misset = (2, 0)
handed_back (TooManyTasks place) = (3, place)
handed_back PolicyNotServed = (4, 0)
handed_back (OutputTooShort place) = (5, place)
handed_back (BadRecord place) = (6, place)
handed_back NoStepPasses = (7, 0)
handed_back (SheetEnds place) = (8, place)
handed_back WrongSettingsCount = (9, 0)
handed_back (WrongResultCount place) = (10, place)
handed_back (BytesAfterLast place) = (11, place)
handed_back (NoSuchRecord place) = (12, place)
handed_back (ProcessorOutOfRange place) = (13, place)
handed_back (ProcessorOverfull place) = (14, place)
handed_back PolicyWithdrawn = (15, 0)
handed_back (BadLine place) = (16, place)
handed_back (BadPeriod place) = (17, place)
handed_back NoResults = (18, 0)
handed_back (WrongResult place) = (19, place)

abbrev pub number_of : Refusal → ℕ
number_of r = (handed_back r).0

abbrev pub place_of : Refusal → ℕ
place_of r = (handed_back r).1
