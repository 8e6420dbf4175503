-- The walk over the tasks that works out the load of each processor, and the walks that find what is out of range or overfull.
-- Assumes nothing.
use Rattle.ground.proofs.Kit.{ℕ, ◌+◌, ◌*◌, ◌≤◌, ◌<◌, false, List, ◌≡◌, refl, sym, ◌∙◌, ap, arith, length, get_or, set, take, replicate, length-set, length-take-le, get_or-replicate}
use Rattle.ground.proofs.Kit.{get_or-set_same, get_or-set_other, eq-eqb, ne_eqb, lt-ltb, le-ltb, ltb-false}
use Rattle.std.proofs.lemmas.List.{get_or-take}
use Rattle.ground.specs.First.{first_below}
use Rattle.ground.specs.Folds.{list_to}
use Rattle.ground.proofs.Cases.{by-eq, by_le, true-false}
use Rattle.ground.proofs.First.{first_cong}
use Rattle.ground.proofs.Folds.{sum-none, sum_more, sum-cong}
use Rattle.ground.proofs.Buffer.{list-cong}
use Rattle.kinds.specs.Limits.{scale, most_processors}
use Rattle.proposal.specs.Loads.{put_on, processor_load, loads_to, is_out_of_range, is_overfull, before_overfull, InRange}
use Rattle.fit.specs.Fit.{load_in}
use Rattle.proposal.specs.Proposal.{place_in}
use Rattle.proposal.specs.Handover.{LoadsAre}

-- what a task puts on its own processor, and on another
module _ (load place : ℕ → ℕ) (p i : ℕ) where
  pub put-here : place i ≡ p → put_on load place p i ≡ load i
  put-here e = rw (eq-eqb (place i) p e)

  pub put-elsewhere : (place i ≡ p → ⊥) → put_on load place p i ≡ 0
  put-elsewhere d = rw (ne_eqb (place i) p d)

-- the load of a processor without tasks, and with one task more
module _ (load place : ℕ → ℕ) (p : ℕ) where
  load-none : processor_load load place 0 p ≡ 0
  unfolding processor_load
  load-none = sum-none (put_on load place p)

  load-more : (i : ℕ) → processor_load load place (i + 1) p ≡ processor_load load place i p + put_on load place p i
  unfolding processor_load
  load-more i = sum_more (put_on load place p) i

-- the load of a processor looks at the first n tasks only
pub load_same : (f g place place' : ℕ → ℕ) (n p : ℕ) → ((i : ℕ) → i < n → f i ≡ g i) → ((i : ℕ) → i < n → place i ≡ place' i)
    → processor_load f place n p ≡ processor_load g place' n p
unfolding processor_load
load_same f g place place' n p e q =
    sum-cong (put_on f place p) (put_on g place' p) n
    (λ i l.
    let a = e i l in
    let b = q i l in
    rw (a, b))

-- the walk has loaded the first i tasks
pub record Loading (load place : ℕ → ℕ) (n : ℕ) (held : List ℕ) (i : ℕ) : Type 0 where
  pub at : i ≤ n
  pub so_far : LoadsAre load place i held
  pub most : (j : ℕ) → j < most_processors → get_or held j 0 ≤ scale * i

module _ (load place : ℕ → ℕ) (n : ℕ) where
  pub loading-none : Loading load place n (replicate most_processors 0) 0
  loading-none =
      let zeros : (j : ℕ) → j < most_processors → ◌≡◌ {A = ℕ} (get_or (replicate most_processors 0) j 0) 0 =
      λ j l. get_or-replicate {A = ℕ} most_processors j 0 0 l in
      record {
        at = omega arith;
        so_far = record { long = refl; are = λ j l. zeros j l ∙ sym (load-none load place (j + 1)) };
        most = λ j l. omega (arith, zeros j l);
      }

  module _ (held : List ℕ) (i : ℕ) (w : Loading load place n held i) (s j : ℕ) (is : s ≡ load i) (few : s ≤ scale)
      (here : j + 1 ≡ place i) (inside : j < most_processors) where
    loaded-here : get_or (set held j (get_or held j 0 + s)) j 0 ≡ get_or held j 0 + s
    loaded-here = get_or-set_same held j (get_or held j 0 + s) 0 (omega (arith, w.so_far.long))

    loaded-other : (x : ℕ) → (x ≡ j → ⊥) → get_or (set held j (get_or held j 0 + s)) x 0 ≡ get_or held x 0
    loaded-other x d = get_or-set_other held j x (get_or held j 0 + s) 0 d

    pub loading-more : i < n → Loading load place n (set held j (get_or held j 0 + s)) (i + 1)
    loading-more l =
        record {
          at = omega arith;
          so_far = record {
            long = length-set held j (get_or held j 0 + s) ∙ w.so_far.long;
            are =
                λ x g.
                by-eq x j
                (λ e. rw e
                (omega (arith, loaded-here, w.so_far.are j inside, load-more load place (j + 1) i, put-here load place (j + 1) i (sym here))))
                (λ d.
                let other = put-elsewhere load place (x + 1) i (λ e. d (omega arith)) in
                omega (arith, loaded-other x d, w.so_far.are x g, load-more load place (x + 1) i, other));
          };
          most =
              λ x g.
              by-eq x j
              (λ e. rw e (omega (arith, loaded-here, w.most j inside)))
              (λ d. omega (arith, loaded-other x d, w.most x g));
        }

-- a walk over the first n loads beside the first n processors has come to task i
pub record Turn (block proposal : List ℕ) (n i load processor : ℕ) : Type 0 where
  pub below : i < n
  pub load_is : load ≡ load_in block i
  pub place_is : processor ≡ place_in proposal i

pub turn : (block proposal : List ℕ) (n i load processor : ℕ) → n ≤ length block → n ≤ length proposal
    → (i < length (take n block)) × (i < length (take n proposal))
    × ((d : ℕ) → load ≡ get_or (take n block) i d) × ((d : ℕ) → processor ≡ get_or (take n proposal) i d)
    → Turn block proposal n i load processor
turn block proposal n i load processor b p z =
    let l : i < n = omega (arith, z.0, length-take-le n block b) in
    record { below = l; load_is = z.2 0 ∙ get_or-take n block i 0 l; place_is = z.3 0 ∙ get_or-take n proposal i 0 l }

-- a processor is out of range, or from 1 to m
module _ (m p : ℕ) where
  pub in-range : is_out_of_range m p ≡ false → InRange m p
  in-range e =
      by_le 1 p
      (λ h. record { some = h; most = ltb-false m p (rw (le-ltb p 1 h) at e) })
      (λ h. true-false {b = is_out_of_range m p} (rw (lt-ltb p 1 h)) e)

  pub range-in : InRange m p → is_out_of_range m p ≡ false
  range-in w = rw (le-ltb p 1 w.some, le-ltb m p w.most)

-- what was worked out of a block for every processor that there can be is what counts for the first m
module _ (f load place : ℕ → ℕ) (n m : ℕ) (held : List ℕ) (w : LoadsAre f place n held) (same : (i : ℕ) → i < n → f i ≡ load i)
    (few : m ≤ most_processors) where
  held-are : (j : ℕ) → j < m → get_or held j 0 ≡ processor_load load place n (j + 1)
  held-are j l = w.are j (omega arith) ∙ load_same f load place place n (j + 1) same (λ i g. refl)

  pub overfull-is : first_below (λ j. is_overfull (get_or held j 0)) m ≡ before_overfull load place n m
  unfolding before_overfull
  overfull-is =
      first_cong (λ j. is_overfull (get_or held j 0)) (λ j. is_overfull (processor_load load place n (j + 1))) m (λ j l. ap is_overfull (held-are j l))

  pub front-is : list_to (λ j. get_or held j 0) m ≡ loads_to load place n m
  unfolding loads_to
  front-is = list-cong (λ j. get_or held j 0) (λ j. processor_load load place n (j + 1)) m held-are
