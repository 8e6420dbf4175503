-- What an admission has checked.
-- Assumes nothing.
use Rattle.ground.proofs.Kit.{ℕ, ◌≤◌, ◌<◌, Bool, true, false, not, List, ◌≡◌, refl, ap, ◌⊎◌, inl, inr, arith, eqb, ltb, eqb-true, ltb-false, Ok, Err}
use lib.Dec.{lit≤, lit<}
use borrow.Author.Tests.{eqb-false}
use Rattle.ground.specs.Choice.{both, either}
use Rattle.ground.proofs.Cases.{by_bool, by_le, true-false}
use Rattle.kinds.specs.declared.Task.{Task}
use Rattle.kinds.specs.declared.Settings.{Settings}
use Rattle.kinds.specs.declared.Policy.{Policy}
use Rattle.kinds.specs.declared.Refusal.{Refusal}
use Rattle.kinds.specs.declared.Refusal.TheVariants.{NoSuchPolicy, PolicyWithdrawn, Misset, TooManyTasks, PolicyNotServed, OutputTooShort, BadRecord}
use Rattle.kinds.specs.Answer.{check, handed_verdict, Verdict}
use Rattle.kinds.specs.Refusal.{number_of}
use Rattle.kinds.specs.Limits.{most_tasks, most_processors, share_edition, charge_edition}
use Rattle.kinds.specs.Policy.{meant, is_weighed, is_first_fit, is_one_core, is_withdrawn, is_further, Served}
use Rattle.kinds.proofs.Policies.{known-served}
use Rattle.share.specs.Table.{first_bad}
use Rattle.admission.specs.Admission.{and_then, knows, misset, unsuited, no_edition, misset_numbers, misset_under}
use Rattle.admission.specs.Admission.{gate, served, roomy, gate_of, records_good, admission}

-- a verdict of a chain was refused nowhere
pub unchecked : (test : Bool) (r : Refusal) (rest : Verdict) → check test (Err r) rest ≡ (Ok tt) → (test ≡ false) × (rest ≡ (Ok tt))
unchecked true r rest e = absurd (let z : ◌≡◌ {A = ℕ} 0 1 = cc in omega arith)
unchecked false r rest e = (refl, e)

pub not-admitted : {A : Type 0} {r : Refusal} (a : Verdict) → a ≡ Err r → a ≡ (Ok tt) → A
not-admitted (Ok _) e f = absurd (let z : ◌≡◌ {A = ℕ} 0 1 = cc in omega arith)
not-admitted (Err q) e f = absurd (let z : ◌≡◌ {A = ℕ} 0 1 = cc in omega arith)

pub then-admitted : (a rest : Verdict) → and_then a rest ≡ (Ok tt) → (a ≡ (Ok tt)) × (rest ≡ (Ok tt))
then-admitted (Ok _) rest e = (refl, e)
then-admitted (Err r) rest e = absurd (let z : ◌≡◌ {A = ℕ} 0 1 = cc in omega arith)

pub neither : (a b : Bool) → either a b ≡ false → (a ≡ false) × (b ≡ false)
neither true b e = true-false refl e
neither false b e = (refl, e)

-- what 2 and 3 have checked
pub record Few (m n : ℕ) : Type 0 where
  pub m-some : 1 ≤ m
  pub m-most : m ≤ most_processors
  pub few : n ≤ most_tasks

pub gate-opens : (test : Bool) (n : ℕ) → gate test n ≡ (Ok tt) → (test ≡ false) × (n ≤ most_tasks)
unfolding gate
gate-opens test n e =
    let set = unchecked _ _ _ e in
    (set.0, ltb-false _ _ (unchecked _ _ _ set.1).0)

pub set-few : (m n : ℕ) → misset m ≡ false → n ≤ most_tasks → Few m n
set-few m n set few =
    let m-is = neither _ _ set in
    record { m-some = ltb-false _ _ m-is.0; m-most = ltb-false _ _ m-is.1; few = few }

pub gate-passed : (m n : ℕ) → gate (misset m) n ≡ (Ok tt) → Few m n
gate-passed m n e =
    let open_is = gate-opens (misset m) n e in
    set-few m n open_is.0 open_is.1

some_of : (x : ℕ) → eqb x 0 ≡ false → 1 ≤ x
some_of x e = by_le x 0 (λ l. absurd (eqb-false x 0 e (omega arith))) (λ l. l)

-- what 2 has checked of the settings' numbers: the processors, and that there is a notch
pub numbers-set : (s : Settings) → misset_numbers s ≡ false → (misset s.m ≡ false) × (1 ≤ s.notch)
numbers-set s e =
    let set = neither (misset s.m) (either (eqb s.notch 0) (no_edition s.edition)) e in
    (set.0, some_of s.notch (neither (eqb s.notch 0) (no_edition s.edition) set.1).0)

-- and that there is such an edition: "1 or 2"
pub edition-set : (s : Settings) → misset_numbers s ≡ false → (s.edition ≡ share_edition) ⊎ (s.edition ≡ charge_edition)
edition-set s e =
    let set = neither (misset s.m) (either (eqb s.notch 0) (no_edition s.edition)) e in
    one_of s.edition (neither (eqb s.notch 0) (no_edition s.edition) set.1).1
  where
    one_of : (x : ℕ) → no_edition x ≡ false → (x ≡ share_edition) ⊎ (x ≡ charge_edition)
    one_of x h =
        by_bool (eqb x share_edition)
        (λ t. inl (eqb-true x share_edition t))
        (λ t. by_bool (eqb x charge_edition) (λ u. inr (eqb-true x charge_edition u)) (λ u. true-false (rw (t, u)) h))

-- and of policy 5, that there is one processor
pub one-core-set : (p : Policy) (m : ℕ) → unsuited p m ≡ false → is_one_core p ≡ true → m ≡ 1
one-core-set p m h t = by_bool (eqb m 1) (λ u. eqb-true m 1 u) (λ u. true-false (rw (t, u)) h)

-- and 5
pub roomy-passed : (n room : ℕ) → roomy n room ≡ (Ok tt) → n ≤ room
roomy-passed n room e = ltb-false _ _ (unchecked _ _ _ e).0

-- what 1 to 5 have checked
pub record Passed (serves : Bool) (p : Policy) (m n room : ℕ) : Type 0 where
  pub known : is_further p ≡ false
  pub standing : is_withdrawn p ≡ false
  pub m-some : 1 ≤ m
  pub m-most : m ≤ most_processors
  pub few : n ≤ most_tasks
  pub served : both (is_first_fit p) (not serves) ≡ false
  pub roomy : n ≤ room

pub all-passed : (serves : Bool) (s : Settings) (n room : ℕ) → gate_of serves s n room ≡ (Ok tt) → Passed serves (meant s.policy) s.m n room
all-passed serves s n room e =
    let known = then-admitted _ _ e in
    let numbered = unchecked _ _ _ known.0 in
    let set = then-admitted _ _ known.1 in
    let asked = then-admitted _ _ set.1 in
    let opens = gate-opens (misset_under s) n set.0 in
    let few = set-few s.m n (numbers-set s (neither _ _ opens.0).0).0 opens.1 in
    record {
      known = numbered.0;
      standing = (unchecked _ _ _ numbered.1).0;
      m-some = few.m-some;
      m-most = few.m-most;
      few = few.few;
      served = (unchecked _ _ _ asked.0).0;
      roomy = roomy-passed n room asked.1;
    }

-- and that nothing is misset, a notch among it
pub set-passed : (serves : Bool) (s : Settings) (n room : ℕ) → gate_of serves s n room ≡ (Ok tt) → misset_under s ≡ false
set-passed serves s n room e =
    let p = meant s.policy in
    let last = and_then (served serves p) (roomy n room) in
    let known = then-admitted (knows p) (and_then (gate (misset_under s) n) last) e in
    let set = then-admitted (gate (misset_under s) n) last known.1 in
    (gate-opens (misset_under s) n set.0).0

pub notch-passed : (serves : Bool) (s : Settings) (n room : ℕ) → gate_of serves s n room ≡ (Ok tt) → 1 ≤ s.notch
notch-passed serves s n room e = (numbers-set s (neither _ _ (set-passed serves s n room e)).0).1

-- a verdict does not refuse by k
abbrev pub Unlike : ℕ → Verdict → Type 0
Unlike k v = (handed_verdict v).number ≡ k → ⊥

pub check-unlike : (k : ℕ) (test : Bool) (r : Refusal) (rest : Verdict) → (number_of r ≡ k → ⊥) → Unlike k rest → Unlike k (check test (Err r) rest)
check-unlike k true r rest h g = h
check-unlike k false r rest h g = g

pub then-unlike : (k : ℕ) (a rest : Verdict) → Unlike k a → Unlike k rest → Unlike k (and_then a rest)
then-unlike k (Ok _) rest h g = g
then-unlike k (Err r) rest h g = h

pub gate-unlike : (test : Bool) (n k : ℕ) → 6 ≤ k → Unlike k (gate test n)
unfolding gate
gate-unlike test n k l =
    check-unlike k test Misset _ (λ e. omega arith)
    (check-unlike k (ltb most_tasks n) (TooManyTasks n) (Ok tt) (λ e. omega arith) (λ e. omega arith))

pub roomy-unlike : (n room k : ℕ) → 6 ≤ k → Unlike k (roomy n room)
roomy-unlike n room k l = check-unlike k (ltb room n) (OutputTooShort n) (Ok tt) (λ e. omega arith) (λ e. omega arith)

knows-unlike : (p : Policy) (k : ℕ) → 6 ≤ k → k < 15 → Unlike k (knows p)
knows-unlike p k l h =
    check-unlike k (is_further p) NoSuchPolicy _ (λ e. omega arith)
    (check-unlike k (is_withdrawn p) PolicyWithdrawn (Ok tt) (λ e. omega arith) (λ e. omega arith))

-- the gate refuses by 1 to 5 and by 15 only
all-unlike : (serves : Bool) (s : Settings) (n room k : ℕ) → 6 ≤ k → k < 15 → Unlike k (gate_of serves s n room)
all-unlike serves s n room k l h =
    let p = meant s.policy in
    let four = check-unlike k (both (is_first_fit p) (not serves)) PolicyNotServed (Ok tt) (λ e. omega arith) (λ e. omega arith) in
    let last = then-unlike k (served serves p) (roomy n room) four (roomy-unlike n room k l) in
    then-unlike k (knows p) _ (knows-unlike p k l h) (then-unlike k (gate (misset_under s) n) _ (gate-unlike (misset_under s) n k l) last)

-- "The lowest number comes first", and 15 "in the place of refusal 1": where 6 is given, none of those before it is
pub six-last : (serves : Bool) (s : Settings) (rows : List Task) (n room place : ℕ) → admission serves s rows n room ≡ Err (BadRecord place)
    → gate_of serves s n room ≡ (Ok tt)
unfolding admission
six-last serves s rows n room place = by (gate_of serves s n room) (all-unlike serves s n room 6 (lit≤ tt) (lit< tt))
  where
    by : (a : Verdict) → Unlike 6 a → and_then a (records_good s.swap s.notch rows n) ≡ Err (BadRecord place) → a ≡ (Ok tt)
    by (Ok _) h e = refl
    by (Err r) h e = absurd (h (ap (λ (v : Verdict). (handed_verdict v).number) e))

-- an admission does not refuse by 7
pub admission-unlike : (serves : Bool) (s : Settings) (rows : List Task) (n room : ℕ) → Unlike 7 (admission serves s rows n room)
unfolding admission
admission-unlike serves s rows n room =
    let bad = first_bad s.swap s.notch rows n in
    then-unlike 7 (gate_of serves s n room) (records_good s.swap s.notch rows n)
    (all-unlike serves s n room 7 (lit≤ tt) (lit< tt))
    (check-unlike 7 (ltb bad n) (BadRecord bad) (Ok tt) (λ e. omega arith) (λ e. omega arith))

-- the policy is served, and weighed where the call does not serve policy 4
pub passed-served : (serves : Bool) (p : Policy) (m n room : ℕ) → Passed serves p m n room → Served p
passed-served serves p m n room a = known-served p a.known a.standing

pub passed-weighed : (p : Policy) (m n room : ℕ) → Passed false p m n room → is_weighed p ≡ true
passed-weighed p m n room a = passed-served false p m n room a (placed-not (is_first_fit p) a.served)
  where
    placed-not : (b : Bool) → both b (not false) ≡ false → b ≡ false
    placed-not true e = e
    placed-not false e = refl

-- what 1 to 6 have checked
pub record Ready (serves : Bool) (s : Settings) (rows : List Task) (n room : ℕ) : Type 0 where
  pub passed : Passed serves (meant s.policy) s.m n room
  pub notched : 1 ≤ s.notch
  pub edition : (s.edition ≡ share_edition) ⊎ (s.edition ≡ charge_edition)
  pub one-core : is_one_core (meant s.policy) ≡ true → s.m ≡ 1
  pub none-bad : n ≤ first_bad s.swap s.notch rows n

pub admitted : (serves : Bool) (s : Settings) (rows : List Task) (n room : ℕ) → admission serves s rows n room ≡ (Ok tt) → Ready serves s rows n room
unfolding admission
admitted serves s rows n room e =
    let a = then-admitted _ _ e in
    let set = neither (misset_numbers s) (unsuited (meant s.policy) s.m) (set-passed serves s n room a.0) in
    record {
      passed = all-passed serves s n room a.0;
      notched = notch-passed serves s n room a.0;
      edition = edition-set s set.0;
      one-core = one-core-set (meant s.policy) s.m set.1;
      none-bad = ltb-false _ _ (unchecked _ _ _ a.1).0;
    }

-- where policy 4 is not asked, it does not matter whether the call serves it
pub admission-serves : (s : Settings) (rows : List Task) (n room : ℕ) → is_first_fit (meant s.policy) ≡ false
    → admission true s rows n room ≡ admission false s rows n room
unfolding admission
admission-serves s rows n room f = rw f
