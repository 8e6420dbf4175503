-- Calls on a table in numbers that cross to C, read as the calls' own promises.
-- Assumes nothing.
use Rattle.std.specs.Prelude.{ℕ, ◌≤◌, min, false, List, ◌≡◌, ℤ, length}
use Rattle.kinds.specs.declared.Task.{Task}
use Rattle.kinds.specs.declared.Settings.{Settings}
use Rattle.kinds.specs.Answer.{Handed, NumberAndPlace}
use Rattle.policy.specs.Under.{most_looks}
use Rattle.outcome.specs.Plan.{Outcome, outcome}
use Rattle.quick_finder.specs.Looked.{looks}
use Rattle.proposal.specs.Proposal as proposal
use Rattle.relief.specs.Relief.{Relieved}
use Rattle.c_numbers.specs.declared.ToldVerdict.{ToldVerdict}
use Rattle.c_numbers.specs.Numbers.{told_verdict}
use Rattle.c_tables.specs.declared.Told.{Told}
use Rattle.c_tables.specs.declared.ToldMargin.{ToldMargin}
use Rattle.c_tables.specs.declared.ToldRelief.{ToldRelief}

abbrev pub told_handed : Told → Handed ℕ
told_handed r = record { number = r.number; place = r.place; value = r.step }

abbrev pub told_margin : ToldMargin → Handed ℤ
told_margin r = record { number = r.number; place = r.place; value = r.margin }

abbrev pub told_relief : ToldRelief → NumberAndPlace
told_relief r = record { number = r.number; place = r.place; value = tt }

-- the plain finder's promise; it makes no looks
pub record ToldMeets (o : Outcome) (r : Told) (periods processors : List ℕ) : Type 0 where
  pub answers : told_handed r ≡ o.handed
  pub grants : periods ≡ o.periods
  pub places : processors ≡ o.processors
  pub no-looks : r.looks ≡ 0

-- the quick finder's promise; its looks are at most n + 1 under edition 1, and 20 under edition 2
pub record ToldLooked (s : Settings) (rows : List Task) (n : ℕ) (old_periods old_processors : List ℕ) (r : Told) (periods processors : List ℕ) : Type 0 where
  pub answers : told_handed r ≡ (outcome false s rows n old_periods old_processors).handed
  pub grants : periods ≡ (outcome false s rows n old_periods old_processors).periods
  pub places : processors ≡ (outcome false s rows n old_periods old_processors).processors
  pub count : r.looks ≡ looks s rows n (min (length old_periods) (length old_processors))
  pub few : r.looks ≤ most_looks s n

-- the checker's promise
pub record ToldProposal (o : proposal.Outcome) (r : ToldVerdict) (loads : List ℕ) : Type 0 where
  pub answers : told_verdict r ≡ o.handed
  pub leaves : loads ≡ o.loads

-- the relief's promise
pub record ToldRelieved (o : Relieved) (r : ToldRelief) (without : List ℕ) : Type 0 where
  pub answers : told_relief r ≡ o.handed
  pub least-told : r.least ≡ o.least
  pub more-told : r.more ≡ o.more
  pub leaves : without ≡ o.without
