-- What is handed on: `accepted-checked`, `refused-keeps`, `refused-first` and `refused-last` say what `HandsOn` means, the others that it
-- holds of what the call leaves.
-- Assumes nothing.
use Rattle.kinds.specs.Answer.{Verdict}
use Rattle.ground.proofs.Kit.{ℕ, ◌≤◌, ◌<◌, min, List, ◌++◌, ◌≡◌, refl, sym, ◌∙◌, ap, subst, ◌⊎◌, arith, length, get_or, take, drop, length-take-le, Ok, Err}
use lib.Seq.{length_front, drop_at, get_or-take}
use Rattle.ground.specs.Folds.{list_to}
use Rattle.ground.proofs.Cases.{by_le}
use Rattle.ground.proofs.Buffer.{list-long, list_at, list-taken}
use Rattle.kinds.specs.declared.Task.{Task}
use Rattle.kinds.specs.declared.Settings.{Settings}
use Rattle.kinds.specs.declared.Refusal.{Refusal}
use Rattle.kinds.specs.Limits.{most_tasks}
use Rattle.kinds.specs.Refusal.{number_of}
use Rattle.proposal.specs.Proposal.{admission, Outcome, outcome, Meets}
use Rattle.proposal.proofs.Admitting.{admitted}
use Rattle.proposal.proofs.Calls.{refused-leaves, first-refused, last-refused, accepted-exactly, outcome-short, outcome-entries}
use Rattle.checked_proposal.specs.Planned.{HandsOn}

module _ (s : Settings) (rows : List Task) (n k : ℕ) (old old_loads : List ℕ) where
  -- what is handed on is accepted by the checker, with these loads
  pub accepted-checked : (proposal loads : List ℕ) → HandsOn s rows n k old old_loads (Ok tt) proposal loads
      → Meets (outcome s rows n k proposal old_loads) (Ok tt) loads
  accepted-checked proposal loads h = subst (λ (p : List ℕ). Meets (outcome s rows n k p old_loads) (Ok tt) loads) (sym h.leaves) h.checked

  -- nothing past the n entries moves
  pub accepted-past : (proposal loads : List ℕ) → HandsOn s rows n k old old_loads (Ok tt) proposal loads → drop n proposal ≡ drop n old
  accepted-past proposal loads h = ap (drop n) h.leaves ∙ h.past

  -- a refused call leaves both outputs as they were
  pub refused-keeps : (r : Refusal) (proposal loads : List ℕ) → HandsOn s rows n k old old_loads (Err r) proposal loads
      → (proposal ≡ old) × (loads ≡ old_loads)
  refused-keeps r proposal loads h = (h.leaves, refused-leaves s rows n k h.planned old_loads r loads h.checked)

  -- refusals 2, 3, 5 and 6 are given exactly where the checker gives them, whatever is proposed
  pub refused-first : (r : Refusal) → admission s rows n (length old) (length old_loads) ≡ Err r → (v : Verdict) (proposal loads : List ℕ)
      → HandsOn s rows n k old old_loads v proposal loads → v ≡ Err r
  refused-first r e v proposal loads h = first-refused s rows n k h.planned old_loads r (rw h.long e) v loads h.checked

  pub refused-last : admission s rows n (length old) (length old_loads) ≡ (Ok tt) → (r : Refusal) (proposal loads : List ℕ)
      → HandsOn s rows n k old old_loads (Err r) proposal loads → (number_of r ≡ 13) ⊎ (number_of r ≡ 14)
  refused-last a r proposal loads h = last-refused s rows n k h.planned old_loads (rw h.long a) r loads h.checked

  -- the planner's processors, as many of them as are lent, and the lent proposal with the first n of them
  module _ (made : List ℕ) (room : length made ≡ most_tasks) where
    abbrev part : List ℕ
    part = take (min (length old) most_tasks) made

    abbrev front : List ℕ
    front = list_to (λ i. get_or made i 0) n ++ drop n old

    part-long : length part ≡ min (length old) most_tasks
    part-long = length-take-le (min (length old) most_tasks) made (omega arith)

    module _ (few : n ≤ most_tasks) (entries : n ≤ length old) where
      front_long : length front ≡ length old
      front_long = length_front old (list_to (λ i. get_or made i 0) n) n (list-long (λ i. get_or made i 0) n ∙ sym (length-take-le n old entries))

      front-alike : outcome s rows n k part old_loads ≡ outcome s rows n k front old_loads
      front-alike =
          outcome-entries s rows n k part front old_loads
          (λ i l. get_or-take (min (length old) most_tasks) made i 0 (omega arith) ∙ sym (list_at 0 (λ j. get_or made j 0) n i (drop n old) l))
          (omega (arith, part-long))
          (omega (arith, front_long))

      front-past : drop n front ≡ drop n old
      front-past = drop_at (list_to (λ i. get_or made i 0) n) (drop n old) n (list-long (λ i. get_or made i 0) n)

    -- too few entries, or too many tasks
    short-alike : min (length old) most_tasks < n → outcome s rows n k part old_loads ≡ outcome s rows n k old old_loads
    short-alike l = outcome-short s rows n k part old old_loads (λ few. omega (arith, part-long)) (λ few. omega arith)

    pub hands-refused : (r : Refusal) (loads : List ℕ) → Meets (outcome s rows n k part old_loads) (Err r) loads
        → HandsOn s rows n k old old_loads (Err r) old loads
    hands-refused r loads w =
        by_le n (min (length old) most_tasks)
        (λ l.
        let few : n ≤ most_tasks = omega arith in
        let entries : n ≤ length old = omega arith in
        record {
          planned = front;
          long = front_long few entries;
          past = front-past few entries;
          checked = subst (λ (o : Outcome). Meets o (Err r) loads) (front-alike few entries) w;
          leaves = refl;
        })
        (λ l.
        record {
          planned = old;
          long = refl;
          past = refl;
          checked = subst (λ (o : Outcome). Meets o (Err r) loads) (short-alike l) w;
          leaves = refl;
        })

    -- what is accepted has an entry for each task
    pub accepted-fits : (loads : List ℕ) → Meets (outcome s rows n k (take (min (length old) most_tasks) made) old_loads) (Ok tt) loads
        → (n ≤ most_tasks) × (n ≤ length old)
    accepted-fits loads w =
        let a = accepted-exactly s rows n k part old_loads (sym w.answers) in
        let p = (admitted s rows n (length part) (length old_loads) a.0).passed in
        (p.few.few, omega (arith, p.entries, part-long))

    pub hands-accepted : (loads : List ℕ) → Meets (outcome s rows n k (take (min (length old) most_tasks) made) old_loads) (Ok tt) loads
        → (copied : List ℕ) → copied ≡ take n made → HandsOn s rows n k old old_loads (Ok tt) (copied ++ drop n old) loads
    hands-accepted loads w copied e =
        let fits = accepted-fits loads w in
        record {
          planned = front;
          long = front_long fits.0 fits.1;
          past = front-past fits.0 fits.1;
          checked = subst (λ (o : Outcome). Meets o (Ok tt) loads) (front-alike fits.0 fits.1) w;
          leaves = ap (λ (l : List ℕ). l ++ drop n old) (e ∙ sym (list-taken 0 made n (omega (arith, fits.0, room))));
        }
