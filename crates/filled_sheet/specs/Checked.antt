-- Document 02, Ask 14: which filled sheets are accepted, and by which number and place the others are refused.
-- Assumes nothing.
use Rattle.std.specs.Prelude.{ℕ, Bool, not, List, Option, Some, None, eqb, ltb, leb, get_or}
use Rattle.ground.specs.Choice.{pick, either}
use Rattle.ground.specs.First.{first_below}
use Rattle.kinds.specs.declared.Granted.{Granted}
use Rattle.kinds.specs.declared.Sheet.{Sheet}
use Rattle.kinds.specs.declared.Refusal.TheVariants.{NoResults, WrongResult}
use Rattle.kinds.specs.Answer.{accepted, unrefused, demanded, handed, NumberAndPlace}
use Rattle.plain_finder.specs.Asked.{asked}
use Rattle.sheet.specs.Rows.{no_granted}
use Rattle.sheet.specs.Reading.{read_sheet}
use Rattle.fill.specs.declared.SheetPlan.{SheetPlan}
use Rattle.fill.specs.Results.{with_plan}

-- two results differ, in the period or in the processor
abbrev pub differ : Granted → Granted → Bool
differ a b = either (not (eqb a.period b.period)) (not (eqb a.processor b.processor))

-- two results sections differ in row i
abbrev pub unlike : List Granted → List Granted → ℕ → Bool
unlike rows others i = differ (get_or rows i no_granted) (get_or others i no_granted)

-- the first of n rows in which two results sections differ, if there is one
abbrev pub first_unlike : List Granted → List Granted → ℕ → Option ℕ
first_unlike rows others n = pick (ltb (first_below (unlike rows others) n) n) (Some (first_below (unlike rows others) n)) None

-- result i of a sheet differs from that of the sheet with the results that are due
abbrev pub differs_at : Sheet → Sheet → ℕ → Bool
differs_at x due i = unlike x.results.rows due.results.rows i

-- "the first result that differs"; the task count where none does
unfoldable pub first_differing : Sheet → Sheet → ℕ
first_differing x due = first_below (differs_at x due) x.table.n

-- "then 18 at 0 when tasks stand there without results, then 19 naming the first result that differs"
unfoldable pub compared : Sheet → Sheet → NumberAndPlace
compared x due =
    demanded tt (leb x.table.n x.results.n) NoResults
    (demanded tt (leb x.table.n (first_differing x due)) (WrongResult (first_differing x due)) (accepted tt))

-- "Reader and finder refusals come first": of a sheet, with what came of filling it in
unfoldable pub checked_by : Sheet → SheetPlan → NumberAndPlace
checked_by x plan = unrefused tt (handed plan.answer) (λ k. compared x plan.sheet)

-- of a sheet, with the plan of the plain finder
unfoldable pub checked_sheet : Sheet → NumberAndPlace
checked_sheet x = unrefused tt (asked x) (λ k. compared x (with_plan x k))

unfoldable pub checked : List ℕ → NumberAndPlace
checked s = unrefused tt (read_sheet s) checked_sheet
