-- The results section of an accepted plan, and a sheet with it.
-- Assumes nothing.
use Rattle.std.specs.Prelude.{ℕ, List, ◌≡◌, eqb, get_or}
use Rattle.ground.specs.Laid.{padded_to}
use Rattle.kinds.specs.declared.Granted.{Granted}
use Rattle.kinds.specs.declared.Results.{Results}
use Rattle.kinds.specs.declared.Sheet.{Sheet}
use Rattle.kinds.specs.Limits.{most_tasks}
use Rattle.outcome.specs.Plan.{periods_under, processors_under}
use Rattle.sheet.specs.Rows.{granted, no_granted}
use Rattle.ground.specs.Choice.{pick}
use Rattle.kinds.specs.Answer.{handed}
use Rattle.plain_finder.specs.Asked.{asked}
use Rattle.fill.specs.declared.SheetPlan.{SheetPlan}

-- entry i of the periods and of the processors
abbrev pub entry_at : List ℕ → List ℕ → ℕ → Granted
entry_at periods processors i = granted (get_or periods i 0) (get_or processors i 0)

-- their first n entries, and then unused places
unfoldable pub results_of : List ℕ → List ℕ → ℕ → Results
results_of periods processors n = record { rows = padded_to no_granted most_tasks (entry_at periods processors) n; n = n }

-- the periods and the processors of a sheet's plan at step k
abbrev pub plan_periods : Sheet → ℕ → List ℕ
plan_periods x k = periods_under x.settings x.table.rows x.table.n k

abbrev pub plan_processors : Sheet → ℕ → List ℕ
plan_processors x k = processors_under x.settings x.table.rows x.table.n k

-- document 01, "Program": "the sheet with results filled in from the plain finder, replacing older ones"
unfoldable pub with_plan : Sheet → ℕ → Sheet
with_plan x k =
    record {
      count = x.count;
      settings = x.settings;
      table = x.table;
      results = results_of (plan_periods x k) (plan_processors x k) x.table.n;
    }

-- the sheet that is handed back: with its plan, and where that is refused as it was
unfoldable pub after_plan : Sheet → Sheet
after_plan x = pick (eqb (asked x).number 0) (with_plan x (asked x).value) x

-- what is handed back of a sheet: the plain finder's answer, and that sheet
pub record Plans (x : Sheet) (r : SheetPlan) : Type 0 where
  pub answers : handed r.answer ≡ asked x
  pub fills : r.sheet ≡ after_plan x
