-- What the admission works out, check by check: its refusal, or the records that are let in.
-- Assumes nothing.
use Rattle.ground.proofs.Kit.{ℕ, ◌≤◌, ◌<◌, not, List, ◌≡◌, sym, ◌∙◌, arith, length, take, lt-ltb, le-ltb, Bool, Option, Ok, Err, Some, None}
use Rattle.std.specs.List.{position, All}
use Rattle.std.proofs.lemmas.List.{get_or-take}
use Rattle.std.proofs.lemmas.List.Elements.{All-from_get_or}
use Rattle.ground.proofs.Lists.{position-first, position-none}
use Rattle.kinds.specs.declared.Refusal.{Refusal}
use Rattle.kinds.specs.declared.Refusal.TheVariants.{BadRecord}
use Rattle.kinds.specs.Answer.{Verdict}
use Rattle.kinds.specs.Limits.{most_tasks}
use Rattle.admission.specs.Admission.{misset, gate, roomy}
use Rattle.admission.proofs.Chain.{gate-passed}
use Rattle.wide_task.specs.declared.WideTask.{WideTask}
use Rattle.wide_task.specs.declared.WideTable.{WideTable}
use Rattle.wide_task.specs.WideTask.{no_wide_task, at, Good, is_good}
use Rattle.wide_finder.specs.Table.{first_bad}
use Rattle.wide_finder.specs.Wide.{admission}
use Rattle.wide_finder.specs.Handover.{LetsIn}
use Rattle.wide_finder.proofs.Tables.{bad-same, good-table}

-- the checks as they are worked out, one after the other
module _ (m : ℕ) (t : WideTable) (room : ℕ) {set : Bool} (set-is : set ≡ misset m) {few : Verdict} (few-is : few ≡ gate set t.n) where
  pub gate-refuses : (r : Refusal) → few ≡ Err r → admission m t.rows t.n room ≡ Err r
  unfolding admission
  gate-refuses r e = rw (← set-is, ← few-is, e)

  module _ (opens : few ≡ Ok tt) {enough : Verdict} (enough-is : enough ≡ roomy t.n room) where
    pub room-refuses : (r : Refusal) → enough ≡ Err r → admission m t.rows t.n room ≡ Err r
    unfolding admission
    room-refuses r e = rw (← set-is, ← few-is, opens, ← enough-is, e)

    pub few-in : t.n ≤ most_tasks
    few-in = (gate-passed m t.n (rw (← set-is) (sym few-is ∙ opens))).few

    module _ (holds : enough ≡ Ok tt) (long : length (take t.n t.rows) ≡ t.n) {bad : Option ℕ}
        (bad-is : bad ≡ position (λ task. not (is_good task)) (take t.n t.rows)) where
      -- the records that are let in are the table's first n
      abbrev rows : List WideTask
      rows = take t.n t.rows

      same : (i : ℕ) → i < t.n → at rows i ≡ at t.rows i
      same i l = get_or-take t.n t.rows i no_wide_task l

      pub bad-refuses : (i : ℕ) → bad ≡ Some i → admission m t.rows t.n room ≡ Err (BadRecord i)
      unfolding admission first_bad
      bad-refuses i e =
          let first = position-first no_wide_task (λ task. not (is_good task)) rows i (sym bad-is ∙ e) in
          let is : i ≡ first_bad t.rows t.n = first.1 ∙ rw long (bad-same rows t.rows t.n same) in
          rw (← set-is, ← few-is, opens, ← enough-is, holds, ← is, lt-ltb i t.n (omega (arith, long, first.0)))

      module _ (none : bad ≡ None) where
        none-bad : t.n ≡ first_bad t.rows t.n
        unfolding first_bad
        none-bad =
            sym long ∙ (position-none no_wide_task (λ task. not (is_good task)) rows (sym bad-is ∙ none) ∙ rw long (bad-same rows t.rows t.n same))

        pub lets-in : LetsIn m t room (take t.n t.rows)
        unfolding admission
        lets-in =
            record {
              passed = rw (← set-is, ← few-is, opens, ← enough-is, holds, ← none-bad, le-ltb t.n t.n (omega arith));
              long = long;
              same = same;
            }

        pub few-rows : length (take t.n t.rows) ≤ most_tasks
        few-rows = omega (arith, long, few-in)

        pub good-in : All Good (take t.n t.rows)
        good-in =
            All-from_get_or Good rows no_wide_task
            (λ i l. rw (same i (omega (arith, long))) ((good-table t few-in (omega (arith, none-bad))).good i (omega (arith, long))))
