-- Document 01, "Numbers we hand back": the checks that every call on a table makes first, the lowest number first.
-- Assumes nothing.
use Rattle.std.specs.Prelude.{ℕ, Bool, not, List, ltb, eqb, Ok, Err}
use Rattle.ground.specs.Choice.{both, either}
use Rattle.kinds.specs.declared.Task.{Task}
use Rattle.kinds.specs.declared.Policy.{Policy}
use Rattle.kinds.specs.declared.Settings.{Settings}
use Rattle.kinds.specs.declared.Refusal.TheVariants.{NoSuchPolicy, PolicyWithdrawn, Misset, TooManyTasks, PolicyNotServed, OutputTooShort, BadRecord}
use Rattle.kinds.specs.Limits.{most_tasks, most_processors, share_edition, charge_edition}
use Rattle.kinds.specs.Policy.{meant, is_first_fit, is_one_core, is_withdrawn, is_further}
use Rattle.kinds.specs.Answer.{check, Verdict}
use Rattle.share.specs.Table.{first_bad}

-- what comes after a verdict
abbrev pub and_then : Verdict → Verdict → Verdict
and_then (Ok _) rest = rest
and_then (Err r) rest = Err r

-- the policy's own refusal: 1 where it is none of those numbered, and in the same place 15 where it is withdrawn
abbrev pub knows : Policy → Verdict
knows p = check (is_further p) (Err NoSuchPolicy) (check (is_withdrawn p) (Err PolicyWithdrawn) (Ok tt))

-- what 2 is given for: m is 0 or above the most
abbrev pub misset : ℕ → Bool
misset m = either (ltb m 1) (ltb most_processors m)

-- policy 5 needs one processor
abbrev pub unsuited : Policy → ℕ → Bool
unsuited p m = both (is_one_core p) (not (eqb m 1))

-- Ask 10: "settings get a fifth number, 1 or 2 ..; another number is refused by 2"
abbrev pub no_edition : ℕ → Bool
no_edition edition = both (not (eqb edition share_edition)) (not (eqb edition charge_edition))

-- what 2 is given for whatever the policy; Ask 5: "q = 0 is refused by 2"
abbrev pub misset_numbers : Settings → Bool
misset_numbers s = either (misset s.m) (either (eqb s.notch 0) (no_edition s.edition))

-- what 2 is given for in a call that asks for a policy
abbrev pub misset_under : Settings → Bool
misset_under s = either (misset_numbers s) (unsuited (meant s.policy) s.m)

-- 2 and 3, for any kind of table: something is misset, more tasks than there may be
unfoldable pub gate : Bool → ℕ → Verdict
gate misset n = check misset (Err Misset) (check (ltb most_tasks n) (Err (TooManyTasks n)) (Ok tt))

-- 4: policy 4 is asked of a call that does not serve it
abbrev pub served : Bool → Policy → Verdict
served serves p = check (both (is_first_fit p) (not serves)) (Err PolicyNotServed) (Ok tt)

-- 5: the shortest lent output holds fewer entries than there are tasks
abbrev pub roomy : ℕ → ℕ → Verdict
roomy n room = check (ltb room n) (Err (OutputTooShort n)) (Ok tt)

-- 1 to 5 of a call on n tasks that serves policy 4, or does not
abbrev pub gate_of : Bool → Settings → ℕ → ℕ → Verdict
gate_of serves s n room =
    let p = meant s.policy in
    and_then (knows p) (and_then (gate (misset_under s) n) (and_then (served serves p) (roomy n room)))

-- 6: the first bad record, or n where there is none
abbrev pub judged : ℕ → ℕ → Verdict
judged bad n = check (ltb bad n) (Err (BadRecord bad)) (Ok tt)

-- of some records, where a swap costs w and a notch is q
abbrev pub records_good : ℕ → ℕ → List Task → ℕ → Verdict
records_good w q rows n = judged (first_bad w q rows n) n

unfoldable pub admission : Bool → Settings → List Task → ℕ → ℕ → Verdict
admission serves s rows n room = and_then (gate_of serves s n room) (records_good s.swap s.notch rows n)
