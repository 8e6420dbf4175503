-- Runs worked out over the definitions: a clock over the turn, what the premise is for, and releases that wait.
-- Assumes nothing.
use Rattle.ground.proofs.Kit.{ℕ, ◌%◌, List, [], ◌∷◌, ◌≡◌, refl}
use Rattle.ground.specs.First.{first_from, first_below}
use Rattle.ground.specs.Folds.{sum_to, max_to, list_to}
use Rattle.clock.specs.declared.Clock.{Clock}
use Rattle.clock.specs.Ticks.{turn, behind, late, latest}
use Rattle.clock.specs.Start.{every, first_bad, clock_from, started}
use Rattle.clock.specs.Call.{released, moved_on, after_call}
use Rattle.clock_time.specs.Time.{earliest, onward, clock_after, next_after}
use Rattle.clock_time.specs.Waiting.{releases_by, waiting}

-- what a run of ticks hands back, the first call's first
abbrev pub run : Clock → List ℕ → List (List ℕ)
run c [] = []
run c (t ∷ ticks) = (released c t).value ∷ run (after_call c t) ticks

abbrev pub three : List ℕ
three = 10 ∷ 20 ∷ 5 ∷ []

-- periods 10, 20 and 5, started six ticks before the turn; a tick that goes back makes tasks not due
pub over-the-turn : run (started three 4294967290).value
    (4294967290 ∷ 4294967290 ∷ 4294967290 ∷ 4294967290 ∷ 4294967289 ∷ 4 ∷ 4 ∷ 3 ∷ 4 ∷ 4 ∷ [])
    ≡ (0 ∷ []) ∷ (1 ∷ []) ∷ (2 ∷ []) ∷ [] ∷ [] ∷ (2 ∷ []) ∷ (0 ∷ []) ∷ [] ∷ (2 ∷ []) ∷ [] ∷ []
unfolding released after_call moved_on latest late behind max_to first_below first_from started first_bad clock_from list_to
over-the-turn = refl

-- at tick 4 after the turn three releases come at or before that of task 0: two of task 2, and its own
pub three-wait : waiting 3 (every three) (next_after three 4294967290 (4294967290 ∷ 4294967290 ∷ 4294967290 ∷ [])) 0 ≡ 3
unfolding waiting releases_by sum_to next_after earliest onward latest max_to first_below first_from
three-wait = refl

-- one task of the longest period, handed back at tick 2,000,000,000, where it was started: its next release is at 3,000,000,000
abbrev pub long : List ℕ
long = 1000000000 ∷ []

abbrev pub before : List ℕ
before = 2000000000 ∷ []

-- what both clocks hand back at a tick after that
pub record Both (t : ℕ) (on32 unbroken : List ℕ) : Type 0 where
  pub by-clock : (released (clock_after long 2000000000 before) (t % turn)).value ≡ on32
  pub by-time : earliest 1 (next_after long 2000000000 before) t ≡ unbroken

-- what the premise is for
pub record AtTheLimits : Type 0 where
  -- at most 1,000,000,000 behind the furthest tick the clocks agree, and there are 147,483,648 ticks to spare
  pub back-enough : Both 1000000000 [] []
  pub back-to-spare : Both 852516352 [] []
  -- one tick further back the clock on 32 bits hands back a task whose release is 2,147,483,649 ticks ahead
  pub too-far-back : Both 852516351 (0 ∷ []) []
  -- a task 2,147,483,647 ticks behind is handed back; one tick more and it is not seen as due
  pub just-seen : Both 5147483647 (0 ∷ []) (0 ∷ [])
  pub too-far-behind : Both 5147483648 [] (0 ∷ [])

pub at-the-limits : AtTheLimits
unfolding released after_call moved_on latest late behind max_to first_below first_from started first_bad clock_from list_to clock_after next_after earliest onward
at-the-limits = record {
  back-enough = record { by-clock = refl; by-time = refl };
  back-to-spare = record { by-clock = refl; by-time = refl };
  too-far-back = record { by-clock = refl; by-time = refl };
  just-seen = record { by-clock = refl; by-time = refl };
  too-far-behind = record { by-clock = refl; by-time = refl };
}
