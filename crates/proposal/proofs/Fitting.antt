-- What first fit places is sound, with the loads that first fit counts: `first-fit-sound` and `first-fit-loads`; so the checker accepts it.
-- Assumes nothing.
use Rattle.ground.proofs.Kit.{ℕ, zero, suc, ◌+◌, ◌≤◌, ◌<◌, true, List, ◌++◌, ◌≡◌, refl, sym, ◌∙◌, ap, arith, length, get_or, set, drop, get_or-replicate, Ok}
use Rattle.ground.proofs.Kit.{get_or-set_same, get_or-set_other}
use Rattle.ground.specs.Folds.{sum_to, list_to}
use Rattle.ground.proofs.Cases.{by-eq}
use Rattle.ground.proofs.Buffer.{list_at, list-cong}
use Rattle.kinds.specs.declared.Task.{Task}
use Rattle.kinds.specs.declared.Settings.{Settings}
use Rattle.kinds.specs.Limits.{scale, most_processors}
use Rattle.fit.specs.Fit.{loads_after, place_at, fits, places_to}
use Rattle.fit.proofs.Placing.{fits-placed, after-long, after_more, each-load-most}
use Rattle.policy.specs.Under.{loads_under}
use Rattle.proposal.specs.Loads.{processor_load, loads_to, InRange, Sound}
use Rattle.proposal.specs.Proposal.{place_in, admission, outcome, Meets}
use Rattle.proposal.proofs.Loading.{load_same, put-here, put-elsewhere}
use Rattle.proposal.proofs.Admitting.{admitted}
use Rattle.proposal.proofs.Calls.{sound-judged, meets-accepted}

module _ (m : ℕ) (load : ℕ → ℕ) (few : m ≤ most_processors) where
  -- the loads that first fit counts are those of its places
  counted : (i : ℕ) → ((x : ℕ) → x < i → place_at m load x < m) → (j : ℕ) → j < m
      → processor_load load (λ x. place_at m load x + 1) i (j + 1) ≡ get_or (loads_after m load i) j 0
  unfolding processor_load sum_to loads_after
  counted zero h j l = sym (get_or-replicate {A = ℕ} most_processors j 0 0 (omega arith))
  counted (suc i) h j l =
      let p = place_at m load i in
      let ls = loads_after m load i in
      let ih = counted i (λ x g. h x (omega arith)) j l in
      let inside : p < length ls = omega (arith, after-long m load i, h i (omega arith)) in
      rw (after_more m load i)
      (by-eq j p
      (λ e.
      omega (
        arith,
        ih,
        put-here load (λ x. place_at m load x + 1) (j + 1) i (omega arith),
        ap (λ (x : ℕ). get_or (set ls p (get_or ls p 0 + load i)) x 0) e,
        ap (λ (x : ℕ). get_or ls x 0) e,
        get_or-set_same ls p (get_or ls p 0 + load i) 0 inside,
      ))
      (λ d.
      omega (
        arith,
        ih,
        put-elsewhere load (λ x. place_at m load x + 1) (j + 1) i (λ e. d (omega arith)),
        get_or-set_other ls p j (get_or ls p 0 + load i) 0 d,
      )))

  module _ (n : ℕ) (all : fits m load n ≡ true) (place : ℕ → ℕ) (is : (i : ℕ) → i < n → place i ≡ place_at m load i + 1) where
    -- the load of each processor is the one that first fit counts
    first-fit-load : (j : ℕ) → j < m → processor_load load place n (j + 1) ≡ get_or (loads_after m load n) j 0
    first-fit-load j l =
        load_same load load place (λ x. place_at m load x + 1) n (j + 1) (λ i g. refl) is ∙ counted n (fits-placed m load n all) j l

    pub first-fit-sound : Sound load place n m
    first-fit-sound =
        record {
          each = λ i l. record { some = omega (arith, is i l); most = omega (arith, is i l, fits-placed m load n all i l) };
          most = most;
        }
      where
        most : (p : ℕ) → InRange m p → processor_load load place n p ≤ scale
        most zero w = absurd (omega (arith, w.some))
        most (suc j) w =
            let e : j + 1 ≡ suc j = omega arith in
            let l : j < m = omega (arith, w.most) in
            let b : processor_load load place n (j + 1) ≤ scale = rw (first-fit-load j l) (each-load-most m load n few all j l) in
            rw e at b

    pub first-fit-loads : loads_to load place n m ≡ list_to (λ j. get_or (loads_after m load n) j 0) m
    unfolding loads_to
    first-fit-loads = list-cong (λ j. processor_load load place n (j + 1)) (λ j. get_or (loads_after m load n) j 0) m first-fit-load

-- what first fit places at a step is accepted, with the loads that first fit counts, whatever stands past the n places
module _ (s : Settings) (rows : List Task) (n k : ℕ) (rest old : List ℕ) (all : fits s.m (loads_under s rows n k) n ≡ true) where
  abbrev load : ℕ → ℕ
  load = loads_under s rows n k

  abbrev proposal : List ℕ
  proposal = places_to s.m load n ++ rest

  proposed : (i : ℕ) → i < n → place_in proposal i ≡ place_at s.m load i + 1
  unfolding places_to
  proposed i l = list_at 0 (λ x. place_at s.m load x + 1) n i rest l

  pub first-fit-accepted : admission s rows n (length (places_to s.m (loads_under s rows n k) n ++ rest)) (length old) ≡ (Ok tt)
      → Meets (outcome s rows n k (places_to s.m (loads_under s rows n k) n ++ rest) old) (Ok tt)
      (list_to (λ j. get_or (loads_after s.m (loads_under s rows n k) n) j 0) s.m ++ drop s.m old)
  first-fit-accepted a =
      let few = (admitted s rows n (length proposal) (length old) a).passed.few.m-most in
      meets-accepted s rows n k proposal old
      (sound-judged s rows n k proposal old a (first-fit-sound s.m load few n all (place_in proposal) proposed))
      _
      (ap (λ (l : List ℕ). l ++ drop s.m old) (sym (first-fit-loads s.m load few n all (place_in proposal) proposed)))
