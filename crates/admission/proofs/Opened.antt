-- What every call on a table has in hand once it is admitted.
-- Assumes nothing.
use Rattle.kinds.specs.Answer.{Verdict}
use Rattle.std.specs.Result.{MatchResult, IsErrAnd}
use Rattle.ground.proofs.Kit.{ℕ, ◌≤◌, ◌<◌, Bool, List, ◌≡◌, refl, sym, ◌∙◌, ap, arith, lt-ltb, le-ltb, Result, Ok, Err}
use Rattle.kinds.specs.declared.Task.{Task}
use Rattle.kinds.specs.declared.Settings.{Settings}
use Rattle.kinds.specs.declared.Refusal.{Refusal}
use Rattle.kinds.specs.declared.Refusal.TheVariants.{BadRecord}
use Rattle.kinds.specs.Limits.{most_tasks}
use Rattle.share.specs.Table.{first_bad, priced_rows}
use Rattle.share.proofs.Tables.{all-good, all-on}
use Rattle.springs.specs.declared.Springs.{Springs}
use Rattle.springs.specs.Handover.{Chargeable, Sprung, TakenIn}
use Rattle.springs.proofs.Columns.{sprung-chargeable, taken-good, taken-bad}
use Rattle.admission.specs.Admission.{gate_of, admission}
use Rattle.admission.specs.Handover.{AdmittedSprung}
use Rattle.admission.proofs.Chain.{Ready, admitted, not-admitted, all-passed, notch-passed}

-- an error that is mapped to a refusal is its bad record
pub by-record : {X : Type 0} (r : Result (Unit {0}) ℕ) (a : Verdict) → MatchResult r (λ x. a ≡ Ok x) (λ i. IsErrAnd a (λ y. y ≡ BadRecord i))
    → (r ≡ Ok tt → a ≡ Ok tt → X) → ((i : ℕ) → r ≡ Err i → a ≡ Err (BadRecord i) → X) → X
by-record (Ok _) a m f g = f refl m
by-record (Err i) (Ok _) m f g = absurd m
by-record (Err i) (Err y) m f g = g i refl (ap Err m)

-- a call that passed the gate is admitted where all its records are taken in, and the springs are then theirs; else the first bad one is refused
module _ (serves : Bool) (s : Settings) (rows : List Task) (n room : ℕ) (r : Result (Unit {0}) ℕ) (now : Springs)
    (opens : gate_of serves s n room ≡ (Ok tt)) (t : TakenIn s.swap s.notch rows n r now) where
  pub good-sprung : r ≡ Ok tt → AdmittedSprung serves s rows n room (Ok tt) now
  unfolding admission
  good-sprung e =
      let good = taken-good s.swap s.notch rows n r now t e in
      record {
        is = rw (opens, le-ltb (first_bad s.swap s.notch rows n) n good.0);
        sprung = λ a. good.1;
        notch = t.notch;
      }

  pub bad-sprung : (i : ℕ) → r ≡ Err i → AdmittedSprung serves s rows n room (Err (BadRecord i)) now
  unfolding admission
  bad-sprung i e =
      let bad = taken-bad s.swap s.notch rows n r now t i e in
      let l : first_bad s.swap s.notch rows n < n = omega (arith, bad.0, bad.1) in
      record {
        is = rw (opens, ← bad.0, lt-ltb i n bad.1);
        sprung = λ a. not-admitted (Err (BadRecord i)) refl a;
        notch = t.notch;
      }

  pub admitted-sprung : (a : Verdict) → MatchResult r (λ x. a ≡ Ok x) (λ i. IsErrAnd a (λ y. y ≡ BadRecord i)) → AdmittedSprung serves s rows n room a now
  admitted-sprung a m = by-record r a m (λ e is. rw is (good-sprung e)) (λ i e is. rw is (bad-sprung i e))

-- what that walk relies on
pub may-walk : (serves : Bool) (s : Settings) (n room : ℕ) {gate : Verdict} → gate ≡ gate_of serves s n room → gate ≡ (Ok tt)
    → (n ≤ most_tasks) × (1 ≤ s.notch)
may-walk serves s n room is opens = ((all-passed serves s n room (sym is ∙ opens)).few, notch-passed serves s n room (sym is ∙ opens))

-- one that did not is refused there
pub refused-gate : (serves : Bool) (s : Settings) (rows : List Task) (n room : ℕ) (r : Refusal) → gate_of serves s n room ≡ Err r
    → Err r ≡ admission serves s rows n room
unfolding admission
refused-gate serves s rows n room r g = rw g

-- and hands on no springs
pub refused-sprung : (serves : Bool) (s : Settings) (rows : List Task) (n room : ℕ) (r : Refusal) (springs : Springs) → springs.notch ≡ s.notch
    → gate_of serves s n room ≡ Err r → AdmittedSprung serves s rows n room (Err r) springs
refused-sprung serves s rows n room r springs notch g =
    record { is = refused-gate serves s rows n room r g; sprung = λ e. not-admitted (Err r) refl e; notch = notch }

-- every check has passed, and the springs are those of the records with their swaps paid for, which may be charged
pub record Opened (serves : Bool) (s : Settings) (rows : List Task) (n room : ℕ) (springs : Springs) : Type 0 where
  pub ready : Ready serves s rows n room
  pub sprung : Sprung (priced_rows s.swap rows n) n springs
  pub chargeable : Chargeable s.notch springs
  pub notch : springs.notch ≡ s.notch

pub opened : (serves : Bool) (s : Settings) (rows : List Task) (n room : ℕ) (a : Verdict) (springs : Springs)
    → AdmittedSprung serves s rows n room a springs → a ≡ (Ok tt) → Opened serves s rows n room springs
opened serves s rows n room a springs x e =
    let ready = admitted serves s rows n room (sym x.is ∙ e) in
    let good = all-good s.swap s.notch rows n ready.none-bad in
    let on = all-on s.swap s.notch rows n ready.none-bad ready.notched in
    record {
      ready = ready;
      sprung = x.sprung e;
      chargeable = sprung-chargeable (priced_rows s.swap rows n) n springs (x.sprung e) good s.notch on;
      notch = x.notch;
    }
