-- The start: which periods are taken, the clock that is started, and that no second answer fits.
-- Assumes nothing.
use Rattle.ground.proofs.Kit.{ℕ, suc, ◌≤◌, ◌<◌, true, not, List, ◌≡◌, refl, sym, ◌∙◌, ap, arith, length, length-take-le, take, replicate, Option, None, Some, Result, Ok, Err}
use Rattle.ground.proofs.Kit.{length-replicate}
use Rattle.ground.proofs.Kit.{ltb, le-leb, leb-true, lt-ltb, le-ltb}
use mathlib.Core.Bool.{cond}
use Rattle.std.specs.List.{position_or_len}
use Rattle.std.proofs.lemmas.List.Sums.{position_or_len_is}
use Rattle.ground.specs.First.{IsFirst}
use Rattle.ground.specs.Laid.{padded}
use Rattle.ground.proofs.Cases.{by_bool, by_le, true-false, both_true}
use Rattle.ground.proofs.First.{first-is}
use Rattle.ground.proofs.Laid.{laid-front}
use borrow.Rule.Slice.PartMut.{put_mid}
use Rattle.kinds.specs.declared.Refusal.{Refusal}
use Rattle.kinds.specs.declared.Refusal.TheVariants.{TooManyTasks, BadPeriod}
use Rattle.kinds.specs.Answer.{Handed, accepted, refused}
use Rattle.kinds.specs.Limits.{longest_period, most_tasks}
use Rattle.kinds.proofs.Answers.{not-refused, refused-one}
use Rattle.clock.specs.declared.Clock.{Clock}
use Rattle.clock.specs.Start.{every, is_period, first_bad, no_clock, clock_from, started, handed_start}

-- a period that is taken
pub record Fair (ticks : ℕ) : Type 0 where
  pub some : 1 ≤ ticks
  pub most : ticks ≤ longest_period

fair : (ticks : ℕ) → is_period ticks ≡ true → Fair ticks
fair ticks e =
    let b = both_true _ _ e in
    record { some = leb-true 1 ticks b.0; most = leb-true ticks longest_period b.1 }

-- the first bad one in words: those before it are taken, and it is not
pub first-bad-is : (ps : List ℕ) → IsFirst (λ i. not (is_period (every ps i))) (length ps) (first_bad ps)
unfolding first_bad
first-bad-is ps = first-is (λ i. not (is_period (every ps i))) (length ps)

-- so that it is where a search for one ends
bad-first : (ps : List ℕ) → position_or_len (λ ticks. not (is_period ticks)) ps ≡ first_bad ps
bad-first ps =
    let f = first-bad-is ps in
    position_or_len_is (λ ticks. not (is_period ticks)) ps (first_bad ps) 0 f.last f.before f.there

-- periods that a clock starts with
pub record Whole (ps : List ℕ) : Type 0 where
  pub few : length ps ≤ most_tasks
  pub fair : (i : ℕ) → i < length ps → Fair (every ps i)

all_fair : (ps : List ℕ) → length ps ≤ first_bad ps → (i : ℕ) → i < length ps → Fair (every ps i)
all_fair ps h i l =
    fair (every ps i)
    (by_bool (is_period (every ps i)) (λ g. g) (λ g. true-false (rw g) ((first-bad-is ps).before i (omega arith))))

-- the three answers
module _ (ps : List ℕ) (tick : ℕ) where
  pub started-many : most_tasks < length ps → refused no_clock (TooManyTasks (length ps)) ≡ started ps tick
  unfolding started
  started-many h = rw (lt-ltb most_tasks (length ps) h)

  pub started-bad : length ps ≤ most_tasks → first_bad ps < length ps → refused no_clock (BadPeriod (first_bad ps)) ≡ started ps tick
  unfolding started
  started-bad h l = rw (le-ltb most_tasks (length ps) h, lt-ltb (first_bad ps) (length ps) l)

  pub started-well : length ps ≤ most_tasks → length ps ≤ first_bad ps → accepted (clock_from ps tick) ≡ started ps tick
  unfolding started
  started-well h l = rw (le-ltb most_tasks (length ps) h, le-ltb (first_bad ps) (length ps) l)

  -- as a search for a bad period finds one, or none
  abbrev Sought : Option ℕ → Type 0
  Sought r =
      r ≡ cond (ltb (position_or_len (λ ticks. not (is_period ticks)) ps) (length ps)) (Some (position_or_len (λ ticks. not (is_period ticks)) ps)) None

  sought : (r : Option ℕ) → Sought r → r ≡ cond (ltb (first_bad ps) (length ps)) (Some (first_bad ps)) None
  sought r e = rw bad-first at e

  pub sought-bad : (bad : ℕ) → length ps ≤ most_tasks → Sought (Some bad) → refused no_clock (BadPeriod bad) ≡ started ps tick
  sought-bad bad few e =
      let s = sought (Some bad) e in
      by_le (suc (first_bad ps)) (length ps)
      (λ l. let b : Some bad ≡ Some (first_bad ps) = rw (lt-ltb (first_bad ps) (length ps) l) at s in
      let k : bad ≡ first_bad ps = cc in
      rw k (started-bad few l))
      (λ h. let b : Some bad ≡ None = rw (le-ltb (first_bad ps) (length ps) (omega arith)) at s in cc)

  pub sought-well : length ps ≤ most_tasks → Sought None → accepted (clock_from ps tick) ≡ started ps tick
  sought-well few e =
      let s = sought None e in
      by_le (suc (first_bad ps)) (length ps)
      (λ l. let b : None ≡ Some (first_bad ps) = rw (lt-ltb (first_bad ps) (length ps) l) at s in cc)
      (λ h. started-well few (omega arith))

  -- an accepted start is one of periods that are all taken
  pub begun : (started ps tick).number ≡ 0 → Whole ps
  begun e =
      by_le (length ps) most_tasks
      (λ few. by_le (length ps) (first_bad ps)
      (λ l. record { few = few; fair = all_fair ps l })
      (λ l. absurd (omega (arith, e, ap (λ (x : Handed Clock). x.number) (started-bad few l)))))
      (λ many. absurd (omega (arith, e, ap (λ (x : Handed Clock). x.number) (started-many many))))

-- and such periods are never refused
fair-is : (ticks : ℕ) → Fair ticks → is_period ticks ≡ true
fair-is ticks f = rw (le-leb 1 ticks f.some, le-leb ticks longest_period f.most)

none-bad : (ps : List ℕ) → Whole ps → length ps ≤ first_bad ps
none-bad ps w =
    by_le (length ps) (first_bad ps) (λ l. l)
    (λ l. true-false ((first-bad-is ps).there l) (ap not (fair-is (every ps (first_bad ps)) (w.fair (first_bad ps) l))))

pub whole-started : (ps : List ℕ) (tick : ℕ) → Whole ps → started ps tick ≡ accepted (clock_from ps tick)
whole-started ps tick w = sym (started-well ps tick w.few (none-bad ps w))

-- the clock that is worked out: both columns written over zeros
column : (xs : List ℕ) (n : ℕ) → length xs ≡ n → n ≤ most_tasks → put_mid 0 n (replicate most_tasks 0) xs ≡ padded 0 most_tasks xs
column xs n e few = rw (sym e) (sym (laid-front xs (replicate most_tasks 0) (omega arith)))

pub clock-made : (ps : List ℕ) (tick : ℕ) (held next : List ℕ) → length ps ≤ most_tasks
    → held ≡ ps → next ≡ replicate (length {A = ℕ} (take (length ps) (replicate most_tasks 0))) tick
    → (record {
      periods = put_mid 0 (length ps) (replicate most_tasks 0) held;
      next = put_mid 0 (length ps) (replicate most_tasks 0) next;
      n = length ps;
    }) ≡ clock_from ps tick
unfolding clock_from
clock-made ps tick held next few e f =
    let n = length ps in
    let g : next ≡ replicate n tick = f ∙ ap (λ (k : ℕ). replicate k tick) (length-take-le n (replicate most_tasks 0) (omega arith)) in
    let x = ap (put_mid 0 n (replicate most_tasks 0)) e ∙ column ps n refl few in
    let y = ap (put_mid 0 n (replicate most_tasks 0)) g ∙ column (replicate n tick) n (length-replicate n tick) few in
    λ i. record { periods = x i; next = y i; n = n }

-- no second answer, nor a second clock

pub start-one : (ps : List ℕ) (tick : ℕ) (r q : Result Clock Refusal) → handed_start r ≡ started ps tick → handed_start q ≡ started ps tick → r ≡ q
start-one ps tick r q e f = same r q (e ∙ sym f)
  where
    same : (r q : Result Clock Refusal) → handed_start r ≡ handed_start q → r ≡ q
    same (Ok c) (Ok d) g = ap Ok (ap (λ (h : Handed Clock). h.value) g)
    same (Ok c) (Err q) g = not-refused c no_clock q g
    same (Err r) (Ok d) g = not-refused d no_clock r (sym g)
    same (Err r) (Err q) g = ap Err (refused-one no_clock r q g)
