-- A sheet compared with a plan is what the definition compares, and with its own plan what the checker says of it.
-- Assumes nothing.
use Rattle.ground.proofs.Kit.{ℕ, ◌≤◌, ◌<◌, min, Bool, not, true, false, List, ◌≡◌, refl, sym, ◌∙◌, ap, arith, length, le-leb, lt-leb, lt-ltb, le-ltb, ltb, ltb-true, ltb-false, Some, None, Ok, Err}
use lib.ListN.{get_or-eq_default}
use Rattle.std.proofs.lemmas.Option.{same_Some, none-some}
use Rattle.std.specs.Prelude.{◌&&◌}
use Rattle.ground.specs.Choice.{either}
use Rattle.ground.specs.First.{first_below}
use Rattle.ground.proofs.First.{first-none}
use Rattle.ground.proofs.Laid.{padded-to-in}
use Rattle.ground.proofs.Cases.{by_le, by_bool}
use Rattle.kinds.specs.declared.Granted.{Granted}
use Rattle.kinds.specs.declared.Sheet.{Sheet}
use Rattle.kinds.specs.declared.Refusal.{Refusal}
use Rattle.kinds.specs.declared.Refusal.TheVariants.{NoResults, WrongResult}
use Rattle.kinds.specs.Limits.{most_tasks}
use Rattle.kinds.specs.Answer.{accepted, refused, handed, Answer}
use Rattle.kinds.proofs.Chain.{comes-first, goes_on}
use Rattle.plain_finder.specs.Asked.{asked}
use Rattle.sheet.specs.Rows.{no_granted}
use Rattle.writer.specs.Canonical.{granted_in}
use Rattle.fill.specs.declared.SheetPlan.{SheetPlan}
use Rattle.fill.specs.Results.{entry_at, results_of, plan_periods, plan_processors, with_plan, Plans}
use Rattle.fill.proofs.Plans.{filling-is}
use Rattle.filled_sheet.specs.Checked.{unlike, first_unlike, first_differing, compared, checked_by, checked_sheet}

-- result i of a sheet with a plan is entry i of the plan
pub planned-at : (x : Sheet) (k i : ℕ) → x.table.n ≤ most_tasks → i < x.table.n
    → granted_in (with_plan x k) i ≡ entry_at (plan_periods x k) (plan_processors x k) i
unfolding with_plan results_of
planned-at x k i few l = padded-to-in no_granted most_tasks (entry_at (plan_periods x k) (plan_processors x k)) x.table.n i l few

-- past their room no two sections differ
pub alike-past : (rows others : List Granted) (i : ℕ) → length rows ≤ i → length others ≤ i → unlike rows others i ≡ false
alike-past rows others i h l =
    rw (get_or-eq_default rows no_granted h, get_or-eq_default others no_granted l)

-- so that no more need be looked at than there is room for
pub none-unlike : (rows others : List Granted) (n i : ℕ) → length rows ≡ most_tasks → length others ≡ most_tasks
    → ((j : ℕ) → j < i → unlike rows others j ≡ false) → min n most_tasks ≤ i → n ≡ first_below (unlike rows others) n
none-unlike rows others n i long long' h l =
    first-none (unlike rows others) n n
    (λ j below. by_le most_tasks j (λ past. alike-past rows others j (omega arith) (omega arith)) (λ held. h j (omega arith))) refl

-- two results differ where they are not equal
pub differ-by_ne : (a b : Bool) → not (a && b) ≡ either (not a) (not b)
differ-by_ne true b = refl
differ-by_ne false b = refl

module _ (rows others : List Granted) (n : ℕ) where
  -- the first, by a walk that comes to it, and by one that comes to the end
  pub unlike-found : (i : ℕ) → i < n → i ≡ first_below (unlike rows others) n → Some i ≡ first_unlike rows others n
  unlike-found i l e = rw (← e, lt-ltb i n l)

  pub unlike-nowhere : n ≡ first_below (unlike rows others) n → None ≡ first_unlike rows others n
  unlike-nowhere e = rw (← e, le-ltb n n (omega arith))

  -- what it says
  pub some-unlike : (i : ℕ) → Some i ≡ first_unlike rows others n → (i ≡ first_below (unlike rows others) n) × (i < n)
  some-unlike i e =
      by_bool (ltb (first_below (unlike rows others) n) n)
      (λ t. let s = same_Some i (first_below (unlike rows others) n) (rw t at e) in (s, omega (arith, ltb-true (first_below (unlike rows others) n) n t)))
      (λ f. absurd (none-some i (sym (rw f at e))))

  pub none-unlike_there : None ≡ first_unlike rows others n → n ≤ first_below (unlike rows others) n
  none-unlike_there e =
      by_bool (ltb (first_below (unlike rows others) n) n)
      (λ t. absurd (none-some (first_below (unlike rows others) n) (rw t at e)))
      (λ f. ltb-false (first_below (unlike rows others) n) n f)

module _ (x : Sheet) (p : SheetPlan) where
  pub plan-refuses : (q : Refusal) → p.answer ≡ Err q → refused tt q ≡ checked_by x p
  unfolding checked_by
  plan-refuses q e = comes-first tt (handed p.answer) (λ k. compared x p.sheet) 0 q (ap handed e)

  module _ (k : ℕ) (e : p.answer ≡ Ok k) where
    then-compared : compared x p.sheet ≡ checked_by x p
    unfolding checked_by
    then-compared = goes_on tt (handed p.answer) (λ j. compared x p.sheet) k (ap handed e)

    pub without-results : x.results.n < x.table.n → refused tt NoResults ≡ checked_by x p
    unfolding compared
    without-results l = rw (lt-leb x.table.n x.results.n l) at then-compared

    module _ (there : x.table.n ≤ x.results.n) (u : ℕ) (is : u ≡ first_below (unlike x.results.rows p.sheet.results.rows) x.table.n) where
      first-is : u ≡ first_differing x p.sheet
      unfolding first_differing
      first-is = is

      pub one-differs : u < x.table.n → refused tt (WrongResult u) ≡ checked_by x p
      unfolding compared
      one-differs l = rw (le-leb x.table.n x.results.n there, ← first-is, lt-leb x.table.n u l) at then-compared

      pub all-agree : x.table.n ≤ u → accepted tt ≡ checked_by x p
      unfolding compared
      all-agree l = rw (le-leb x.table.n x.results.n there, ← first-is, le-leb x.table.n u l) at then-compared

  -- with its own plan
  module _ (plans : Plans x p) where
    own-refuses : (q : Refusal) → p.answer ≡ Err q → refused tt q ≡ checked_sheet x
    unfolding checked_sheet
    own-refuses q e = comes-first tt (asked x) (λ k. compared x (with_plan x k)) 0 q (sym plans.answers ∙ ap handed e)

    own-compared : (k : ℕ) → p.answer ≡ Ok k → compared x p.sheet ≡ checked_sheet x
    unfolding checked_sheet
    own-compared k e =
        ap (compared x) (filling-is x p plans k e)
        ∙ goes_on tt (asked x) (λ j. compared x (with_plan x j)) k (sym plans.answers ∙ ap handed e)

    by_answer : (a : Answer) → p.answer ≡ a → checked_by x p ≡ checked_sheet x
    by_answer (Err q) e = sym (plan-refuses q e) ∙ own-refuses q e
    by_answer (Ok k) e = sym (then-compared k e) ∙ own-compared k e

    pub checked-by : checked_by x p ≡ checked_sheet x
    checked-by = by_answer p.answer refl
