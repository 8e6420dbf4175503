-- What the calls on a table tell of the table of the lent records, they tell of the records.
-- Assumes nothing.
use Rattle.ground.proofs.Kit.{ℕ, ◌≤◌, ◌<◌, min, Bool, true, false, List, ◌≡◌, ◌∙◌, length}
use Rattle.ground.proofs.Laid.{padded-at}
use Rattle.kinds.specs.declared.Settings.{Settings}
use Rattle.kinds.specs.declared.Task.{Task}
use Rattle.kinds.specs.Limits.{most_tasks}
use Rattle.kinds.specs.Task.{at, table_of}
use Rattle.kinds.proofs.Records.{table_at}
use Rattle.outcome.specs.Plan.{outcome}
use Rattle.outcome.proofs.Outcomes.{outcome-same}
use Rattle.quick_finder.proofs.Promises.{looks-agree}
use Rattle.margin.specs.Margin.{margin_handed}
use Rattle.margin.proofs.Margins.{margin-handed-same}
use Rattle.proposal.specs.Proposal as proposal
use Rattle.proposal.proofs.Calls as calls
use Rattle.relief.specs.Relief.{relieved}
use Rattle.relief.proofs.Reliefs.{relieved-same}
use Rattle.wide_task.specs.declared.WideTask.{WideTask}
use Rattle.wide_task.specs.WideTask as wide-task
use Rattle.wide_finder.specs.Wide as wide
use Rattle.wide_finder.proofs.Outcomes as wide-outcomes
use Rattle.office.proofs.Answers.{handed-same, after_same}
use Rattle.c_numbers.specs.declared.ToldVerdict.{ToldVerdict}
use Rattle.c_numbers.specs.declared.ToldCount.{ToldCount}
use Rattle.c_tables.specs.declared.Told.{Told}
use Rattle.c_tables.specs.declared.ToldRelief.{ToldRelief}
use Rattle.c_tables.specs.Told.{ToldMeets, ToldLooked, ToldProposal, ToldRelieved}
use Rattle.c_texts.specs.Texts.{ToldExports}

-- where a table takes them all, its records are the lent ones
agree : (rows : List Task) → length rows ≤ most_tasks → (i : ℕ) → i < length rows → at (table_of rows).rows i ≡ at rows i
agree rows few i _ = table_at rows few i

module _ (s : Settings) (rows : List Task) where
  pub outcome-over : (serves : Bool) (periods processors : List ℕ)
      → outcome serves s (table_of rows).rows (length rows) periods processors ≡ outcome serves s rows (length rows) periods processors
  outcome-over serves periods processors = outcome-same serves s (table_of rows).rows rows (length rows) periods processors (agree rows)

  pub margin-over : (k : ℕ) → margin_handed s (table_of rows).rows (length rows) k ≡ margin_handed s rows (length rows) k
  margin-over k = margin-handed-same s (table_of rows).rows rows (length rows) k (agree rows)

  pub proposal-over : (k : ℕ) (proposed loads : List ℕ)
      → proposal.outcome s (table_of rows).rows (length rows) k proposed loads ≡ proposal.outcome s rows (length rows) k proposed loads
  proposal-over k proposed loads = calls.outcome-same s (table_of rows).rows rows (length rows) k proposed loads (agree rows)

  pub told-proposal-over : (k : ℕ) (proposed old : List ℕ) (r : ToldVerdict) (loads : List ℕ)
      → ToldProposal (proposal.outcome s (table_of rows).rows (length rows) k proposed old) r loads
      → ToldProposal (proposal.outcome s rows (length rows) k proposed old) r loads
  told-proposal-over k proposed old r loads x = rw (← proposal-over k proposed old) x

  pub told-relief-over : (old : List ℕ) (r : ToldRelief) (new : List ℕ)
      → ToldRelieved (relieved s (table_of rows).rows (length rows) old) r new → ToldRelieved (relieved s rows (length rows) old) r new
  told-relief-over old r new x = rw (← relieved-same s (table_of rows).rows rows (length rows) old (agree rows)) x

  module _ (periods processors : List ℕ) (r : Told) (ps qs : List ℕ) where
    pub told-meets-over : ToldMeets (outcome true s (table_of rows).rows (length rows) periods processors) r ps qs
        → ToldMeets (outcome true s rows (length rows) periods processors) r ps qs
    told-meets-over x = rw (← outcome-over true periods processors) x

    pub told-looked-over : ToldLooked s (table_of rows).rows (length rows) periods processors r ps qs
        → ToldLooked s rows (length rows) periods processors r ps qs
    told-looked-over x =
        let o = outcome-over false periods processors in
        record {
          answers = rw (← o) x.answers;
          grants = rw (← o) x.grants;
          places = rw (← o) x.places;
          count = x.count ∙ looks-agree s (table_of rows).rows rows (length rows) (agree rows) (min (length periods) (length processors));
          few = x.few;
        }

pub told-wide-over : (m : ℕ) (rows : List WideTask) (periods cores : List ℕ) (r : Told) (ps cs : List ℕ)
    → ToldMeets (wide.outcome m (wide-task.table_of rows).rows (length rows) periods cores) r ps cs
    → ToldMeets (wide.outcome m rows (length rows) periods cores) r ps cs
told-wide-over m rows periods cores r ps cs x =
    let o =
    wide-outcomes.outcome-same m (wide-task.table_of rows).rows rows (length rows) periods cores
    (λ few i _. padded-at wide-task.no_wide_task most_tasks rows few i) in
    rw (← o) x

pub told-exports-over : (rows : List Task) (old : List ℕ) (r : ToldCount) (new : List ℕ)
    → ToldExports (table_of rows).rows (length rows) old r new → ToldExports rows (length rows) old r new
told-exports-over rows old r new x =
    record {
      answers = x.answers ∙ handed-same (table_of rows).rows rows (length rows) (agree rows) (length old);
      leaves = x.leaves ∙ after_same (table_of rows).rows rows (length rows) (agree rows) old;
    }
