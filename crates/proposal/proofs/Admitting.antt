-- What the admission of a proposal has checked, and the loads that it leaves.
-- Assumes nothing.
use Rattle.std.specs.Result.{MatchResult, IsErrAnd}
use Rattle.ground.proofs.Kit.{ℕ, ◌≤◌, List, ◌≡◌, refl, sym, ◌∙◌, subst, arith, lt-ltb, le-ltb, ltb-false, Result, Ok, Err}
use Rattle.kinds.specs.declared.Task.{Task}
use Rattle.kinds.specs.declared.Settings.{Settings}
use Rattle.kinds.specs.declared.Refusal.{Refusal}
use Rattle.kinds.specs.declared.Refusal.TheVariants.{BadRecord}
use Rattle.kinds.specs.Limits.{most_processors}
use Rattle.kinds.specs.Answer.{Verdict}
use Rattle.share.specs.Table.{first_bad}
use Rattle.share.proofs.Tables.{all-good, all-on}
use Rattle.springs.specs.Spring.{loads_on}
use Rattle.springs.specs.declared.Springs.{Springs}
use Rattle.springs.specs.Springs.{spring_in}
use Rattle.springs.specs.Handover.{Chargeable, Workable, Loaded, Sprung, TakenIn}
use Rattle.springs.proofs.Columns.{workable-beside, loaded-low, loads-are, loads-most, sprung-chargeable, taken-good, taken-bad, taken-workable}
use Rattle.fit.specs.Handover.{Loads}
use Rattle.policy.specs.Under.{rows_under}
use Rattle.policy.proofs.Weighing.{loaded-loads}
use Rattle.admission.specs.Admission.{and_then, misset_numbers, gate, roomy, records_good}
use Rattle.admission.proofs.Chain.{Few, unchecked, not-admitted, then-admitted, gate-opens, numbers-set, set-few, roomy-passed}
use Rattle.admission.proofs.Opened.{by-record}
use Rattle.proposal.specs.Proposal.{gate_of, admission}
use Rattle.proposal.specs.Handover.{LoadsOf, AdmittedLoaded}

-- what 2, 3 and 5 have checked
pub record Passed (s : Settings) (n proposed room : ℕ) : Type 0 where
  pub few : Few s.m n
  pub notched : 1 ≤ s.notch
  pub entries : n ≤ proposed
  pub roomy : s.m ≤ room

pub gate-passed : (s : Settings) (n proposed room : ℕ) → gate_of s n proposed room ≡ (Ok tt) → Passed s n proposed room
gate-passed s n proposed room e =
    let last = and_then (roomy n proposed) (roomy s.m room) in
    let set = then-admitted (gate (misset_numbers s) n) last e in
    let opens = gate-opens (misset_numbers s) n set.0 in
    let numbers = numbers-set s opens.0 in
    let fives = then-admitted (roomy n proposed) (roomy s.m room) set.1 in
    record {
      few = set-few s.m n numbers.0 opens.1;
      notched = numbers.1;
      entries = roomy-passed n proposed fives.0;
      roomy = roomy-passed s.m room fives.1;
    }

-- and 6
pub record Ready (s : Settings) (rows : List Task) (n proposed room : ℕ) : Type 0 where
  pub passed : Passed s n proposed room
  pub none-bad : n ≤ first_bad s.swap s.notch rows n

pub admitted : (s : Settings) (rows : List Task) (n proposed room : ℕ) → admission s rows n proposed room ≡ (Ok tt) → Ready s rows n proposed room
unfolding admission
admitted s rows n proposed room e =
    let a = then-admitted (gate_of s n proposed room) (records_good s.swap s.notch rows n) e in
    record { passed = gate-passed s n proposed room a.0; none-bad = ltb-false _ _ (unchecked _ _ _ a.1).0 }

-- the loads of step k that are worked out from the springs of some records are the tasks'
pub loads-held : (s : Settings) (rows : List Task) (n : ℕ) (springs : Springs) → s.m ≤ most_processors → Sprung (rows_under s rows n) n springs
    → (k : ℕ) (new : Springs) → Loaded (loads_on s (spring_in springs) k) springs.n springs new → Loads new.loads new.n → LoadsOf s rows n k new
loads-held s rows n springs m-most sprung k new w light =
    let all : new.n ≡ n = w.beside.count ∙ sprung.count in
    record {
      m-most = m-most;
      count = all;
      light = rw all at light;
      are = λ i l. w.are i (omega (arith, sprung.count)) ∙ loads-are (rows_under s rows n) n springs sprung s k i l;
    }

-- those of good records may be charged, and none of their loads is above S
module _ (s : Settings) (rows : List Task) (n proposed room : ℕ) (ready : Ready s rows n proposed room)
    (springs : Springs) (sprung : Sprung (rows_under s rows n) n springs) where
  pub springs-chargeable : Chargeable s.notch springs
  springs-chargeable =
      let good = all-good s.swap s.notch rows n ready.none-bad in
      let on = all-on s.swap s.notch rows n ready.none-bad ready.passed.notched in
      sprung-chargeable (rows_under s rows n) n springs sprung good s.notch on

  pub good-held : (k : ℕ) (new : Springs) → Loaded (loads_on s (spring_in springs) k) springs.n springs new → LoadsOf s rows n k new
  good-held k new w =
      loads-held s rows n springs ready.passed.few.m-most sprung k new w (loaded-loads _ springs new (loads-most s springs springs-chargeable k) w)

-- the walk over the records of a call that passed the gate: what it found is the admission's, and where that admits its springs are there
module _ (s : Settings) (rows : List Task) (n proposed room : ℕ) (gate : Verdict) (g : gate ≡ gate_of s n proposed room) where
  pub refused-loaded : (r : Refusal) (k : ℕ) (springs : Springs) → gate ≡ Err r → AdmittedLoaded s rows n k proposed room (Err r) springs
  unfolding admission
  refused-loaded r k springs e = record { is = rw (← g, e); loads = λ o. not-admitted (Err r) refl o }

  -- every call may be made on the springs that are taken in where it could on those that stood there
  pub walked-workable : gate ≡ (Ok tt) → (r : Result (Unit {0}) ℕ) (old now : Springs) → TakenIn s.swap s.notch rows n r now → now.loads ≡ old.loads
      → Workable old → Workable now
  walked-workable opens r old now t same =
      taken-workable s.swap s.notch rows n r now t (gate-passed s n proposed room (sym g ∙ opens)).notched old same

  module _ (opens : gate ≡ (Ok tt)) (r : Result (Unit {0}) ℕ) (now : Springs) (t : TakenIn s.swap s.notch rows n r now)
      (a : Verdict) (mapped : MatchResult r (λ x. a ≡ Ok x) (λ i. IsErrAnd a (λ y. y ≡ BadRecord i))) where
    bad-loaded : (i : ℕ) → r ≡ Err i → (k : ℕ) (new : Springs) → AdmittedLoaded s rows n k proposed room (Err (BadRecord i)) new
    unfolding admission
    bad-loaded i e k new =
        let bad = taken-bad s.swap s.notch rows n r now t i e in
        record { is = rw (sym g ∙ opens, ← bad.0, lt-ltb i n bad.1); loads = λ o. not-admitted (Err (BadRecord i)) refl o }

    pub err-loaded : (x : Refusal) → a ≡ Err x → (k : ℕ) (new : Springs) → AdmittedLoaded s rows n k proposed room (Err x) new
    err-loaded x e k new =
        by-record r a mapped
        (λ all q. let z = sym q ∙ e in absurd cc)
        (λ i bad q. subst (λ (v : Verdict). AdmittedLoaded s rows n k proposed room v new) (sym q ∙ e) (bad-loaded i bad k new))

    module _ (e : a ≡ (Ok tt)) where
      all-taken : r ≡ Ok tt
      all-taken = by-record r a mapped (λ all q. all) (λ i bad q. let z = sym q ∙ e in absurd cc)

      good : (n ≤ first_bad s.swap s.notch rows n) × Sprung (rows_under s rows n) n now
      good = taken-good s.swap s.notch rows n r now t all-taken

      admits : ◌≡◌ {A = Verdict} (Ok tt) (admission s rows n proposed room)
      unfolding admission
      admits = rw (sym g ∙ opens, le-ltb (first_bad s.swap s.notch rows n) n good.0)

      pub may-charge : Chargeable s.notch now
      may-charge = springs-chargeable s rows n proposed room (admitted s rows n proposed room (sym admits)) now good.1

      pub well-loaded : (k : ℕ) (new : Springs) → Loaded (loads_on s (spring_in now) k) now.n now new
          → AdmittedLoaded s rows n k proposed room (Ok tt) new
      well-loaded k new w =
          let ready = admitted s rows n proposed room (sym admits) in
          record { is = admits; loads = λ _. good-held s rows n proposed room ready now good.1 k new w }

      -- and they are left as those that were taken in
      pub well-workable : (k : ℕ) (old new : Springs) → Loaded (loads_on s (spring_in now) k) now.n now new → now.loads ≡ old.loads
          → Workable old → Workable new
      well-workable k old new w same h =
          let low = loaded-low (loads_on s (spring_in now) k) now.n now new w (loads-most s now may-charge k) in
          workable-beside now new w.beside low (walked-workable opens r old now t same h)

-- an admitted call: its counts are checked, and the springs have its loads
pub record Checked (s : Settings) (rows : List Task) (n k proposed room : ℕ) (springs : Springs) : Type 0 where
  pub admits : admission s rows n proposed room ≡ (Ok tt)
  pub entries : n ≤ proposed
  pub roomy : s.m ≤ room
  pub held : LoadsOf s rows n k springs

pub checked : (s : Settings) (rows : List Task) (n k proposed room : ℕ) (a : Verdict) (springs : Springs)
    → AdmittedLoaded s rows n k proposed room a springs → a ≡ (Ok tt) → Checked s rows n k proposed room springs
checked s rows n k proposed room a springs x e =
    let admits = sym x.is ∙ e in
    let passed = (admitted s rows n proposed room admits).passed in
    record { admits = admits; entries = passed.entries; roomy = passed.roomy; held = x.loads e }
