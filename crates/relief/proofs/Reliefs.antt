-- One relief for every call. What is told in the request's words: `least-least`, `more-least`, `more-none`, `more-one-core`, `without-least`,
-- `nothing-told`; each refusal is given exactly when its sentence holds, `relief-exactly`; no second answer fits, `no-second-relief`; and the
-- call depends on the first n records only, `relieved-same`.
-- Assumes nothing.
use Rattle.ground.proofs.Kit.{ℕ, ◌-◌, ◌≤◌, ◌<◌, Bool, true, false, not, List, [], ◌∷◌, ◌++◌, ◌≡◌, refl, sym, ◌∙◌, ap, arith, ltb, Ok, Err}
use Rattle.ground.proofs.Kit.{length, get_or, drop}
use Rattle.ground.specs.Choice.{both}
use Rattle.ground.specs.Folds.{list_to}
use Rattle.ground.proofs.Buffer.{list_at, list-past, list-cong}
use Rattle.ground.proofs.Cases.{true-false}
use Rattle.ground.proofs.Laid.{over-cong}
use Rattle.kinds.specs.declared.Task.{Task}
use Rattle.kinds.specs.declared.Settings.{Settings}
use Rattle.kinds.specs.declared.Refusal.{Refusal}
use Rattle.kinds.specs.declared.Refusal.TheVariants.{TooManyTasks, PolicyNotServed, OutputTooShort}
use Rattle.kinds.specs.Answer.{handed, handed_verdict, Answer, Verdict}
use Rattle.kinds.specs.Chain.{Check, ◌when◌, first_of, Exactly, numbers_given}
use Rattle.kinds.specs.Limits.{most_tasks, most_processors}
use Rattle.kinds.specs.Policy.{meant, is_first_fit, is_one_core}
use Rattle.kinds.specs.Task.{at, no_tasks}
use Rattle.kinds.proofs.Answers.{verdict-one}
use Rattle.kinds.proofs.Chains.{first-without, verdict-exactly}
use Rattle.policy.specs.Under.{least_under}
use Rattle.admission.specs.Admission.{admission}
use Rattle.admission.specs.Chain.{settings_chain, record_check}
use Rattle.admission.proofs.Chain.{Ready, admitted, not-admitted}
use Rattle.admission.proofs.Exactly.{ready-admitted, admission-chain}
use Rattle.admission.proofs.Gated.{answer-same}
use Rattle.outcome.specs.Plan.{found}
use Rattle.order.proofs.Gone.{from_low}
use Rattle.keep.specs.Keep.{left_row, left_rows}
use Rattle.keep.proofs.Rows.{left-good}
use Rattle.relief.specs.Chain.{relief_chain}
use Rattle.relief.specs.Relief.{one_more, told_step, least_told, least_with, least_without, admitted_by, Answered, verdict_of, told_of, Relieved, told_with, relieved, MeetsRelief}
use Rattle.relief.proofs.Telling.{told, told-least, told-roomy, told-refused, told-agrees, admitted-is}

-- a verdict as an answer that tells nothing
answered-as : Verdict → Answered
answered-as (Ok _) = Ok (record { least = 0; more = 0 })
answered-as (Err r) = Err r

-- an answer is known by its verdict and what it tells
answered-one : (r q : Answered) → verdict_of r ≡ verdict_of q → (told_of r).least ≡ (told_of q).least → (told_of r).more ≡ (told_of q).more → r ≡ q
unfolding answered-as
answered-one (Ok x) (Ok y) v l m = λ i. Ok (record { least = l i; more = m i })
answered-one (Ok x) (Err b) v l m = not-admitted (Ok tt) v refl
answered-one (Err a) (Ok y) v l m = not-admitted (Ok tt) (sym v) refl
answered-one (Err a) (Err b) v l m = ap answered-as v

-- policy 4 is never refused by 4 where it is served
served-never : (first : Bool) → both first (not true) ≡ false
served-never true = refl
served-never false = refl

-- number and place are those of the verdict
verdict-handed : (v : Verdict) (least more : ℕ) (front : List ℕ) (n : ℕ) (old : List ℕ) → (told_with v least more front n old).handed ≡ handed_verdict v
verdict-handed (Ok _) least more front n old = refl
verdict-handed (Err r) least more front n old = refl

module _ (s : Settings) (rows : List Task) (n : ℕ) (old : List ℕ) where
  pub relief-handed : (relieved s rows n old).handed ≡ handed_verdict (admission true s rows n (length old))
  unfolding relieved
  relief-handed = verdict-handed (admission true s rows n (length old)) _ _ _ n old

  -- no second answer, nor a second content of the output
  pub no-second-relief : (r q : Answered) (xs ys : List ℕ) → MeetsRelief (relieved s rows n old) r xs → MeetsRelief (relieved s rows n old) q ys
      → (r ≡ q) × (xs ≡ ys)
  no-second-relief r q xs ys a b =
      let same = verdict-one (verdict_of r) (verdict_of q) (a.answers ∙ sym b.answers) in
      (answered-one r q same (a.least-told ∙ sym b.least-told) (a.more-told ∙ sym b.more-told), a.leaves ∙ sym b.leaves)

  -- the admission, which serves policy 4, so that 4 may be left out
  relief-chain : admission true s rows n (length old) ≡ first_of (relief_chain s rows n (length old))
  relief-chain =
      let first = is_first_fit (meant s.policy) in
      let before : List Check = settings_chain s ++ (TooManyTasks n when ltb most_tasks n ∷ []) in
      let four = PolicyNotServed when both first (not true) in
      let after : List Check = OutputTooShort n when ltb (length old) n ∷ record_check s rows n ∷ [] in
      admission-chain true s rows n (length old) ∙ first-without Err (Ok tt) before four after (served-never first)

  -- 1, 15, 2, 3, 5 and 6 are given exactly when their sentences hold, the earlier first
  pub relief-exactly : (r : Answered) (xs : List ℕ) → MeetsRelief (relieved s rows n old) r xs
      → Exactly (relief_chain s rows n (length old)) tt tt (handed_verdict (verdict_of r))
  relief-exactly r xs x =
      rw (x.answers ∙ relief-handed)
      (verdict-exactly (relief_chain s rows n (length old)) (admission true s rows n (length old)) relief-chain)

  -- its numbers, in their order
  pub relief-numbers : numbers_given (relief_chain s rows n (length old)) ≡ 1 ∷ 15 ∷ 2 ∷ 3 ∷ 5 ∷ 6 ∷ []
  relief-numbers = refl

  -- a refusal tells nothing and writes nothing
  pub nothing-told : (r : Refusal) → admission true s rows n (length old) ≡ Err r
      → ((relieved s rows n old).least ≡ 0) × ((relieved s rows n old).more ≡ 0) × ((relieved s rows n old).without ≡ old)
  unfolding relieved
  nothing-told r e = (rw e, rw e, rw e)

  -- an admitted call tells the least step, that with one processor more, and for each task that without it, and nothing past them moves
  module _ (admits : admission true s rows n (length old) ≡ (Ok tt)) where
    pub least-is : (relieved s rows n old).least ≡ least_told s rows n
    unfolding relieved
    least-is = rw admits

    pub more-is : (relieved s rows n old).more ≡ least_with s rows n
    unfolding relieved
    more-is = rw admits

    pub without_is : (i : ℕ) → i < n → get_or (relieved s rows n old).without i 0 ≡ least_without s rows n i
    unfolding relieved
    without_is i l = rw admits (list_at 0 (least_without s rows n) n i (drop n old) l)

    pub past_is : (i : ℕ) → n ≤ i → get_or (relieved s rows n old).without i 0 ≡ get_or old i 0
    unfolding relieved
    past_is i l = rw admits (list-past (least_without s rows n) n i old l)

    pub ready : Ready true s rows n (length old)
    ready = admitted true s rows n (length old) admits

    -- the table as it stands, whatever the room
    roomy : admission true s rows n n ≡ (Ok tt)
    roomy = ready-admitted true s rows n n enough
      where
        enough : Ready true s rows n n
        enough =
            let r = ready in
            let p = r.passed in
            record {
              passed =
                  record {
                    known = p.known;
                    standing = p.standing;
                    m-some = p.m-some;
                    m-most = p.m-most;
                    few = p.few;
                    served = p.served;
                    roomy = omega arith;
                  };
              notched = r.notched;
              edition = r.edition;
              one-core = r.one-core;
              none-bad = r.none-bad;
            }

    -- "the least step" of the table is demand 2's
    pub least-least : least_told s rows n ≡ told (least_under s rows n)
    least-least = told-least s rows n roomy

    -- "for each task the least step without that task": those that stay are admitted, and demand 2's search has the last word
    pub without-least : (i : ℕ) → least_without s rows n i ≡ told (least_under s (left_rows rows n i) (n - 1))
    without-least i = told-least s (left_rows rows n i) (n - 1) (ready-admitted true s (left_rows rows n i) (n - 1) (n - 1) fewer)
      where
        fewer : Ready true s (left_rows rows n i) (n - 1) (n - 1)
        fewer =
            let r = ready in
            let p = r.passed in
            record {
              passed =
                  record {
                    known = p.known;
                    standing = p.standing;
                    m-some = p.m-some;
                    m-most = p.m-most;
                    few = omega (arith, p.few);
                    served = p.served;
                    roomy = omega arith;
                  };
              notched = r.notched;
              edition = r.edition;
              one-core = r.one-core;
              none-bad = left-good rows n i p.few s.swap s.notch r.none-bad;
            }

    -- "the least step with one processor more", where there may be one more
    pub more-least : s.m < most_processors → is_one_core (meant s.policy) ≡ false → least_with s rows n ≡ told (least_under (one_more s) rows n)
    more-least l several = told-least (one_more s) rows n (ready-admitted true (one_more s) rows n n larger)
      where
        larger : Ready true (one_more s) rows n n
        larger =
            let r = ready in
            let p = r.passed in
            record {
              passed =
                  record {
                    known = p.known;
                    standing = p.standing;
                    m-some = omega arith;
                    m-most = omega arith;
                    few = p.few;
                    served = p.served;
                    roomy = omega arith;
                  };
              notched = r.notched;
              edition = r.edition;
              one-core = λ one. true-false one several;
              none-bad = r.none-bad;
            }

-- one processor more than 16 is none, and under policy 5 one more than one
module _ (s : Settings) (rows : List Task) (n : ℕ) where
  pub more-none : most_processors ≤ s.m → least_with s rows n ≡ 0
  more-none h = told-refused (one_more s) rows n (λ a. omega (arith, (admitted true (one_more s) rows n n a).passed.m-most))

  pub more-one-core : is_one_core (meant s.policy) ≡ true → 1 ≤ s.m → least_with s rows n ≡ 0
  more-one-core one some = told-refused (one_more s) rows n (λ a. omega (arith, (admitted true (one_more s) rows n n a).one-core one))

-- what the call's returns hand back
module _ (s : Settings) (rows : List Task) (n : ℕ) (old : List ℕ) (answer : Answer) (is : handed answer ≡ found true s rows n (length old)) where
  module _ (verdict : Verdict) (v : verdict ≡ admitted_by answer) where
    verdict-is : verdict ≡ admission true s rows n (length old)
    verdict-is = v ∙ admitted-is s rows n (length old) answer is

    pub untold : (r : Refusal) → verdict ≡ Err r → MeetsRelief (relieved s rows n old) (Err r) old
    unfolding relieved
    untold r e =
        let a = sym verdict-is ∙ e in
        record { answers = rw a; least-told = rw a; more-told = rw a; leaves = rw a }

    -- what the telling relies on
    module _ (e : verdict ≡ (Ok tt)) where
      admits : admission true s rows n (length old) ≡ (Ok tt)
      admits = sym verdict-is ∙ e

      pub may-tell : (s.m ≤ most_processors) × (n ≤ most_tasks) × (n ≤ length old)
      may-tell = let p = (ready s rows n old admits).passed in (p.m-most, p.few, p.roomy)

      pub all_told : (least : ℕ) → least ≡ told_step (handed answer) → (more : ℕ) → more ≡ least_with s rows n
          → (new : List ℕ) → new ≡ list_to (least_without s rows n) n ++ drop n old
          → MeetsRelief (relieved s rows n old) (Ok (record { least = least; more = more })) new
      unfolding relieved
      all_told least l more m new w =
          let a = admits in
          let step = l ∙ (ap told_step is ∙ (told-roomy s rows n (length old) a ∙ sym (least-least s rows n old a))) in
          record { answers = rw a; least-told = rw a step; more-told = rw a m; leaves = rw a w }

-- two tables that agree on the first n records are relieved alike; where n is too large, any two are
module _ (s : Settings) (xs ys : List Task) (n : ℕ) (old : List ℕ) (same : n ≤ most_tasks → (i : ℕ) → i < n → at xs i ≡ at ys i) where
  left-same : ((i : ℕ) → i < n → at xs i ≡ at ys i) → (i : ℕ) → left_rows xs n i ≡ left_rows ys n i
  unfolding left_rows
  left-same agree i = over-cong no_tasks (left_row xs i) (left_row ys i) (n - 1) (λ j l. agree _ (from_low i j n l))

  without-same : ((i : ℕ) → i < n → at xs i ≡ at ys i) → list_to (least_without s xs n) n ≡ list_to (least_without s ys n) n
  without-same agree =
      list-cong (least_without s xs n) (least_without s ys n) n (λ i l. ap (λ (rows : List Task). least_told s rows (n - 1)) (left-same agree i))

  -- what an admitted call tells, of which a refusal does not
  abbrev Telling : Type 0
  Telling = ℕ × ℕ × List ℕ

  abbrev telling : Verdict → Telling → Relieved
  telling v x = told_with v x.0 x.1 x.2 n old

  pub relieved-same : relieved s xs n old ≡ relieved s ys n old
  unfolding relieved
  relieved-same =
      answer-same telling (λ r x y. refl) true s xs ys n (length old)
      (least_told s xs n, least_with s xs n, list_to (least_without s xs n) n) (least_told s ys n, least_with s ys n, list_to (least_without s ys n) n) same
      (λ agree. λ i. (told-agrees s xs ys n same i, told-agrees (one_more s) xs ys n same i, without-same agree i))
