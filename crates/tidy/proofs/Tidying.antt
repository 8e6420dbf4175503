-- What is handed on: `taken-through`, `handed-taken` and `refused-keeps` say what `Tidies` means, the others that it holds of what the call leaves.
-- Assumes nothing.
use Rattle.ground.proofs.Kit.{ℕ, ◌+◌, ◌≤◌, ◌<◌, true, false, List, [], ◌++◌, ◌≡◌, refl, sym, ◌∙◌, ap, subst, arith, length, take, drop, length-append, Ok, Err}
use Rattle.ground.proofs.Kit.{eq-eqb, ne_eqb, eqb-true}
use lib.Seq.{take_at}
use Rattle.std.specs.Result.{result_or}
use Rattle.ground.proofs.Cases.{by_bool, true-false}
use Rattle.kinds.specs.declared.Refusal.{Refusal}
use Rattle.kinds.specs.Limits.{most_tasks}
use Rattle.kinds.specs.Refusal.{number_of}
use Rattle.kinds.specs.Answer.{Handed, accepted, refused, handed_count, Counted}
use Rattle.kinds.proofs.Refusals.{refusal-numbered}
use Rattle.kinds.proofs.Answers.{not-refused, count-one}
use Rattle.field.specs.Handover.{Put}
use Rattle.field.proofs.Stores.{stored-front}
use Rattle.office.specs.declared.Imported.{Imported}
use Rattle.office.specs.Text.{longest_text}
use Rattle.office.specs.Reading.{Reading, read_text, rows_of}
use Rattle.office.specs.Carrying.{after_carry, Reads}
use Rattle.office.proofs.Answers.{after-refused, import-not}
use Rattle.office.proofs.Longest.{taken-most}
use Rattle.tidy.specs.Tidied.{strict, is_taken, handed_on, tidy_handed, longest_loose, Tidies}
use Rattle.tidy.specs.Handover.{only_taken, HandsOn}

-- ---- what the strict import takes
module _ (s : List ℕ) where
  -- its answer is that of an import by value
  pub strict-answers : (i : Imported) → Reads s most_tasks i → handed_count i.answer ≡ strict s
  unfolding strict
  strict-answers i reads = reads.answer

  taken-by : (n : ℕ) → strict s ≡ accepted n → is_taken s ≡ true
  taken-by n e = rw e

  untaken-by : (r : Refusal) → strict s ≡ refused 0 r → is_taken s ≡ false
  untaken-by r e = rw e (ne_eqb (number_of r) 0 (λ z. omega (arith, refusal-numbered r)))

  strict-not : (r : Refusal) → read_text s ≡ Err r → strict s ≡ refused 0 r
  unfolding strict
  strict-not r e = import-not s most_tasks r e

  -- what is taken reads as rows
  pub taken-reads : is_taken s ≡ true → read_text s ≡ Ok (rows_of (read_text s))
  taken-reads t = by (read_text s) refl
    where
      by : (reading : Reading) → read_text s ≡ reading → read_text s ≡ Ok (rows_of (read_text s))
      by (Ok rows) e = rw e
      by (Err r) e =
          let none = ap (λ (h : Handed ℕ). h.number) (strict-not r e) in
          absurd (omega (arith, refusal-numbered r, eqb-true (strict s).number 0 t))

  -- and is no longer than the longest text
  pub taken-short : (n : ℕ) → strict s ≡ accepted n → length s ≤ longest_text
  taken-short n e = taken-most s (rows_of (read_text s)) (taken-reads (taken-by n e))

-- ---- what is handed on of a text and a candidate
pub record On (text candidate : List ℕ) (h : Handed ℕ) (on : List ℕ) : Type 0 where
  pub handed : tidy_handed text candidate ≡ h
  pub bytes : handed_on text candidate ≡ on

module _ (text candidate : List ℕ) where
  on-text : is_taken text ≡ true → On text candidate (accepted (length text)) text
  on-text t = record { handed = rw t; bytes = rw t }

  on-candidate : is_taken text ≡ false → is_taken candidate ≡ true → On text candidate (accepted (length candidate)) candidate
  on-candidate t c = record { handed = rw (t, c); bytes = rw (t, c) }

  on-nothing : is_taken text ≡ false → is_taken candidate ≡ false → On text candidate (strict text) []
  on-nothing t c = record { handed = rw (t, c); bytes = rw (t, c) }

  -- the answer and the output that follow from it
  module _ (old : List ℕ) (h : Handed ℕ) (on : List ℕ) (o : On text candidate h on) where
    output-is : after_carry (tidy_handed text candidate) (handed_on text candidate) old ≡ after_carry h on old
    output-is =
        ap (λ (x : Handed ℕ). after_carry x (handed_on text candidate) old) o.handed ∙ ap (λ (x : List ℕ). after_carry h x old) o.bytes

    tidies-on : (longest_loose < length text → candidate ≡ text) → (r : Counted) (new : List ℕ) → handed_count r ≡ h → new ≡ after_carry h on old
        → Tidies text old r new
    tidies-on l r new a n = record { candidate = candidate; long = l; answer = a ∙ sym o.handed; output = n ∙ sym output-is }

-- ---- what is handed on of one text
module _ (s old : List ℕ) where
  only-taken : is_taken s ≡ true → only_taken s ≡ accepted (length s)
  only-taken t = rw t

  only-not : is_taken s ≡ false → only_taken s ≡ strict s
  only-not t = rw t

  -- what the strict import answers decides it
  module _ (a : Counted) (asked : handed_count a ≡ strict s) where
    strict-is : (r : Counted) → a ≡ r → strict s ≡ handed_count r
    strict-is r e = sym asked ∙ ap handed_count e

    pub hands-refused : (q : Refusal) → a ≡ Err q → HandsOn s old (Err q) old
    hands-refused q e =
        let is = strict-is (Err q) e in
        let only = only-not (untaken-by s q is) ∙ is in
        record { answer = sym only; output = sym (ap (λ (h : Handed ℕ). after_carry h s old) only ∙ after-refused q s old) }

    pub room_for : (n : ℕ) → a ≡ Ok n → longest_text ≤ length old → 0 + length s ≤ length old
    room_for n e l = omega (arith, taken-short s n (strict-is (Ok n) e))

    pub hands-taken : (n : ℕ) → a ≡ Ok n → longest_text ≤ length old → (k : ℕ) (new : List ℕ) → Put old 0 (length s) s k new
        → HandsOn s old (Ok k) new
    hands-taken n e l k new p =
        let is = strict-is (Ok n) e in
        let only = only-taken (taken-by s n is) in
        let long : k ≡ length s = omega (arith, p.next-is) in
        record {
          answer = ap accepted long ∙ sym only;
          output =
              p.new_is
              ∙ (stored-front old s (length s) refl (omega (arith, taken-short s n is))
              ∙ sym (ap (λ (h : Handed ℕ). after_carry h s old) only));
        }

  module _ (r : Counted) (new : List ℕ) (h : HandsOn s old r new) where
    pub record Taken : Type 0 where
      pub taken : is_taken s ≡ true
      pub counted : handed_count r ≡ accepted (length s)
      pub written : new ≡ s ++ drop (length s) old

    was-taken : (n : ℕ) → r ≡ Ok n → Taken
    was-taken n e =
        by_bool (is_taken s)
        (λ t.
        let only = only-taken t in
        record { taken = t; counted = h.answer ∙ only; written = h.output ∙ ap (λ (x : Handed ℕ). after_carry x s old) only })
        (λ t.
        let none : strict s ≡ accepted n = sym (sym (ap handed_count e) ∙ (h.answer ∙ only-not t)) in
        true-false (taken-by s n none) t)

    pub was-refused : (q : Refusal) → r ≡ Err q → (strict s ≡ refused 0 q) × (new ≡ old)
    was-refused q e =
        by_bool (is_taken s)
        (λ t. not-refused (length s) 0 q (sym (sym (ap handed_count e) ∙ (h.answer ∙ only-taken t))))
        (λ t.
        let only = only-not t in
        let is : strict s ≡ refused 0 q = sym (sym (ap handed_count e) ∙ (h.answer ∙ only)) in
        (is, h.output ∙ (ap (λ (x : Handed ℕ). after_carry x s old) (only ∙ is) ∙ after-refused q s old)))

-- ---- what the call leaves
module _ (text old : List ℕ) where
  pub tidies-text : (r : Counted) (new : List ℕ) → HandsOn text old r new → (n : ℕ) → r ≡ Ok n → Tidies text old r new
  tidies-text r new h n e =
      let was = was-taken text old r new h n e in
      tidies-on text text old (accepted (length text)) text (on-text text text was.taken) (λ l. refl) r new was.counted was.written

  module _ (q : Refusal) (not : strict text ≡ refused 0 q) where
    refused-with : (candidate : List ℕ) → (longest_loose < length text → candidate ≡ text) → is_taken candidate ≡ false → Tidies text old (Err q) old
    refused-with candidate l c =
        tidies-on text candidate old (strict text) [] (on-nothing text candidate (untaken-by text q not) c) l (Err q) old
        (sym not) (sym (ap (λ (h : Handed ℕ). after_carry h [] old) not ∙ after-refused q [] old))

    pub tidies-none : Tidies text old (Err q) old
    tidies-none = refused-with text (λ l. refl) (untaken-by text q not)

    module _ (short : length text ≤ longest_loose) (candidate : List ℕ) (r : Counted) (new : List ℕ) (h : HandsOn candidate old r new) where
      tidies-candidate : (n : ℕ) → r ≡ Ok n → Tidies text old r new
      tidies-candidate n e =
          let was = was-taken candidate old r new h n e in
          tidies-on text candidate old (accepted (length candidate)) candidate
          (on-candidate text candidate (untaken-by text q not) was.taken) (λ l. absurd (omega arith)) r new was.counted was.written

      tidies-refused : (p : Refusal) → r ≡ Err p → Tidies text old (Err q) new
      tidies-refused p e =
          let was = was-refused candidate old r new h p e in
          rw was.1 (refused-with candidate (λ l. absurd (omega arith)) (untaken-by candidate p was.0))

      pub tidies-or : (a : Counted) → a ≡ result_or r (Err q) → Tidies text old a new
      tidies-or a e = by r refl e
        where
          by : (b : Counted) → r ≡ b → a ≡ result_or r (Err q) → Tidies text old a new
          by (Ok n) x e = rw (e ∙ (ap (λ (z : Counted). result_or z (Err q)) x ∙ sym x)) (tidies-candidate n x)
          by (Err p) x e = rw (e ∙ ap (λ (z : Counted). result_or z (Err q)) x) (tidies-refused p x)

  -- a text of which nothing was written at first
  pub tidies-after : (mid : List ℕ) → mid ≡ old → (r : Counted) (new : List ℕ) → Tidies text mid r new → Tidies text old r new
  tidies-after mid e r new h = subst (λ (l : List ℕ). Tidies text l r new) e h

-- ---- what it means
module _ (text old : List ℕ) where
  -- a text that the strict import takes goes through byte for byte, and nothing past it is written
  pub taken-through : (n : ℕ) → strict text ≡ accepted n → (r : Counted) (new : List ℕ) → Tidies text old r new
      → (r ≡ Ok (length text)) × (new ≡ text ++ drop (length text) old)
  taken-through n e r new h =
      let on = on-text text h.candidate (taken-by text n e) in
      (count-one r (Ok (length text)) (h.answer ∙ on.handed), h.output ∙ output-is text h.candidate old _ _ on)

  front-taken : (on new : List ℕ) (k : ℕ) → is_taken on ≡ true → accepted k ≡ accepted (length on) → new ≡ on ++ drop (length on) old
      → is_taken (take k new) ≡ true
  front-taken on new k t a n =
      let long : length on ≡ k = sym (ap (λ (h : Handed ℕ). h.value) a) in
      let front : take k new ≡ on = ap (take k) n ∙ take_at on (drop (length on) old) k long in
      rw front t

  front_fits : (on new : List ℕ) (k : ℕ) → accepted k ≡ accepted (length on) → new ≡ on ++ drop (length on) old → k ≤ length new
  front_fits on new k a n =
      omega (arith, ap (λ (h : Handed ℕ). h.value) a, ap length n, length-append on (drop (length on) old))

  -- what is handed on stands inside the output
  pub count_fits : (r : Counted) (new : List ℕ) → Tidies text old r new → (k : ℕ) → r ≡ Ok k → k ≤ length new
  count_fits r new h k e =
      let a : accepted k ≡ tidy_handed text h.candidate = sym (ap handed_count e) ∙ h.answer in
      by_bool (is_taken text)
      (λ t.
      let on = on-text text h.candidate t in
      front_fits text new k (a ∙ on.handed) (h.output ∙ output-is text h.candidate old _ _ on))
      (λ t.
      by_bool (is_taken h.candidate)
      (λ c.
      let on = on-candidate text h.candidate t c in
      front_fits h.candidate new k (a ∙ on.handed) (h.output ∙ output-is text h.candidate old _ _ on))
      (λ c.
      let on = on-nothing text h.candidate t c in
      let zero : (strict text).number ≡ 0 = sym (ap (λ (x : Handed ℕ). x.number) (a ∙ on.handed)) in
      true-false (eq-eqb (strict text).number 0 zero) t))

  -- what is handed on is a text that the strict import takes
  pub handed-taken : (k : ℕ) (new : List ℕ) → Tidies text old (Ok k) new → is_taken (take k new) ≡ true
  handed-taken k new h =
      by_bool (is_taken text)
      (λ t.
      let on = on-text text h.candidate t in
      front-taken text new k t (h.answer ∙ on.handed) (h.output ∙ output-is text h.candidate old _ _ on))
      (λ t.
      by_bool (is_taken h.candidate)
      (λ c.
      let on = on-candidate text h.candidate t c in
      front-taken h.candidate new k c (h.answer ∙ on.handed) (h.output ∙ output-is text h.candidate old _ _ on))
      (λ c.
      let on = on-nothing text h.candidate t c in
      let zero : (strict text).number ≡ 0 = sym (ap (λ (x : Handed ℕ). x.number) (h.answer ∙ on.handed)) in
      true-false (eq-eqb (strict text).number 0 zero) t))

  -- a refusal is the strict import's of the text, and nothing is written
  pub refused-keeps : (q : Refusal) (new : List ℕ) → Tidies text old (Err q) new → (strict text ≡ refused 0 q) × (new ≡ old)
  refused-keeps q new h =
      by_bool (is_taken text)
      (λ t. not-refused (length text) 0 q (sym (h.answer ∙ (on-text text h.candidate t).handed)))
      (λ t.
      by_bool (is_taken h.candidate)
      (λ c. not-refused (length h.candidate) 0 q (sym (h.answer ∙ (on-candidate text h.candidate t c).handed)))
      (λ c.
      let on = on-nothing text h.candidate t c in
      let is : strict text ≡ refused 0 q = sym (h.answer ∙ on.handed) in
      (is, h.output ∙ (output-is text h.candidate old _ _ on ∙ (ap (λ (x : Handed ℕ). after_carry x [] old) is ∙ after-refused q [] old)))))

  -- nothing is handed on of a text that is longer than those for which there is a candidate
  pub long-refused : longest_loose < length text → (r : Counted) (new : List ℕ) → Tidies text old r new → (handed_count r ≡ strict text) × (new ≡ old)
  long-refused l r new h =
      by_bool (is_taken text)
      (λ t. absurd (omega (arith, taken-most text (rows_of (read_text text)) (taken-reads text t))))
      (λ t.
      let on = on-nothing text h.candidate t (rw (h.long l) t) in
      let kept : after_carry (strict text) [] old ≡ old = rw t in
      (h.answer ∙ on.handed, h.output ∙ (output-is text h.candidate old _ _ on ∙ kept)))

  -- so no second answer is given for a text that it takes
  pub taken-one : (n : ℕ) → strict text ≡ accepted n → (r q : Counted) (new other : List ℕ) → Tidies text old r new → Tidies text old q other
      → (r ≡ q) × (new ≡ other)
  taken-one n e r q new other a b =
      let x = taken-through n e r new a in
      let y = taken-through n e q other b in
      (x.0 ∙ sym y.0, x.1 ∙ sym y.1)
