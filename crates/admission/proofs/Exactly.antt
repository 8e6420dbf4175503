-- "Given exactly when", of 1, 15 and 2 to 6: the admission is its chain, `admission-chain`, and where it admits nothing is left unchecked,
-- `ready-admitted`.
-- Assumes nothing.
use Rattle.ground.proofs.Kit.{ℕ, Bool, true, false, not, List, [], ◌∷◌, ◌++◌, ◌≡◌, refl, ◌∙◌, ap, ltb, le-ltb, Ok, Err}
use Rattle.ground.specs.Choice.{both}
use Rattle.kinds.specs.declared.Task.{Task}
use Rattle.kinds.specs.declared.Settings.{Settings}
use Rattle.kinds.specs.declared.Refusal.TheVariants.{NoSuchPolicy, PolicyWithdrawn, Misset, TooManyTasks, PolicyNotServed, OutputTooShort, BadRecord}
use Rattle.kinds.specs.Answer.{handed_verdict, Verdict}
use Rattle.kinds.specs.Limits.{most_tasks}
use Rattle.kinds.specs.Policy.{meant, is_first_fit, is_withdrawn, is_further}
use Rattle.kinds.specs.Chain.{Check, ◌when◌, first_by, first_of, Exactly, numbers_given}
use Rattle.kinds.proofs.Chains.{first-through, first_then, verdict-exactly}
use Rattle.share.specs.Table.{first_bad}
use Rattle.admission.specs.Admission.{and_then, misset_under, gate, admission}
use Rattle.admission.specs.Chain.{admission_chain}
use Rattle.admission.proofs.Chain.{Ready}
use Rattle.admission.proofs.Sentences.{two-says}

-- two chains of a verdict, one after the other
pub then-first : (xs ys : List Check) → and_then (first_of xs) (first_of ys) ≡ first_of (xs ++ ys)
then-first xs ys = first-through (λ v. and_then v (first_of ys)) Err (Ok tt) xs ∙ first_then Err (Ok tt) xs ys

-- a call that does not serve policy 4 refuses it by 4
pub unserved : (first : Bool) → both first (not false) ≡ first
unserved true = refl
unserved false = refl

-- the admission is the first refusal of its chain
module _ (serves : Bool) (s : Settings) (rows : List Task) (n room : ℕ) where
  pub admission-chain : admission serves s rows n room ≡ first_of (admission_chain serves s rows n room)
  unfolding admission gate first_by
  admission-chain =
      let p = meant s.policy in
      let bad = first_bad s.swap s.notch rows n in
      let one : List Check = NoSuchPolicy when is_further p ∷ PolicyWithdrawn when is_withdrawn p ∷ [] in
      let two : List Check = Misset when misset_under s ∷ TooManyTasks n when ltb most_tasks n ∷ [] in
      let four : List Check = PolicyNotServed when both (is_first_fit p) (not serves) ∷ [] in
      let five : List Check = OutputTooShort n when ltb room n ∷ [] in
      let six : List Check = BadRecord bad when ltb bad n ∷ [] in
      let from-two = ap (and_then (first_of two)) (then-first four five) ∙ then-first two (four ++ five) in
      let from_one = ap (and_then (first_of one)) from-two ∙ then-first one (two ++ (four ++ five)) in
      ap (λ (v : Verdict). and_then v (first_of six)) from_one ∙ then-first (one ++ (two ++ (four ++ five))) six

  -- 1, 15, 2, 3, 4, 5 and 6 are given exactly when their sentences hold, the earlier first
  pub admission-exactly : Exactly (admission_chain serves s rows n room) tt tt (handed_verdict (admission serves s rows n room))
  admission-exactly = verdict-exactly (admission_chain serves s rows n room) (admission serves s rows n room) admission-chain

  -- its numbers, in their order
  pub admission-numbers : numbers_given (admission_chain serves s rows n room) ≡ 1 ∷ 15 ∷ 2 ∷ 3 ∷ 4 ∷ 5 ∷ 6 ∷ []
  admission-numbers = refl

-- what was checked is enough
pub ready-admitted : (serves : Bool) (s : Settings) (rows : List Task) (n room : ℕ) → Ready serves s rows n room → admission serves s rows n room ≡ (Ok tt)
unfolding admission gate
ready-admitted serves s rows n room r =
    let a = r.passed in
    let bad = first_bad s.swap s.notch rows n in
    let set : misset_under s ≡ false =
    (two-says s).1
    (record {
      m-some = a.m-some;
      m-most = a.m-most;
      notched = r.notched;
      edition = r.edition;
      one-core = λ five. r.one-core (rw five);
    }) in
    rw (a.known, a.standing, set, le-ltb most_tasks n a.few, a.served, le-ltb room n a.roomy, le-ltb bad n r.none-bad)
