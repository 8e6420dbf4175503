-- What the functions of the springs and their callers hand each other.
-- Assumes nothing.
use Rattle.std.specs.Prelude.{ℕ, ◌+◌, ◌≤◌, ◌<◌, List, ◌≡◌, length, get_or, Result, Ok, Err, ltb}
use Rattle.ground.specs.Choice.{pick}
use Rattle.ground.specs.Folds.{sum_to, AddedUp}
use Rattle.kinds.specs.declared.Task.{Task}
use Rattle.kinds.specs.Limits.{scale}
use Rattle.kinds.specs.Task.{at}
use Rattle.share.specs.Table.{first_bad, priced_rows}
use Rattle.springs.specs.declared.Spring.{Spring}
use Rattle.springs.specs.declared.Springs.{Springs}
use Rattle.springs.specs.Spring.{spring_of, shares_on}
use Rattle.springs.specs.Allowed.{AllAtMost, AllWithin, AllAllowed}
use Rattle.springs.specs.Springs.{spring_in}

-- the springs are within their limits
abbrev pub Springy : Springs → Type 0
Springy s = AllWithin (spring_in s) s.n

-- or even allowed periods on a notch
abbrev pub Chargeable : ℕ → Springs → Type 0
Chargeable q s = AllAllowed q (spring_in s) s.n

-- every call may be made on springs that are allowed periods on the notch that they name, with no load above S
pub record Workable (s : Springs) : Type 0 where
  pub allowed : Chargeable s.notch s
  pub low : AllAtMost scale s.loads

-- the sum of the shares at step k
abbrev pub SumIs : (ℕ → Spring) → ℕ → ℕ → ℕ → Type 0
SumIs springs n k sum = AddedUp (shares_on springs k) scale n sum

-- no springs yet
pub record Empty (q : ℕ) (s : Springs) : Type 0 where
  pub count : s.n ≡ 0
  pub notch : s.notch ≡ q

-- nothing but loads has moved
pub record Beside (old new : Springs) : Type 0 where
  pub largest : new.largest ≡ old.largest
  pub least : new.least ≡ old.least
  pub elasticity : new.elasticity ≡ old.elasticity
  pub saturation : new.saturation ≡ old.saturation
  pub cost : new.cost ≡ old.cost
  pub tmin : new.tmin ≡ old.tmin
  pub count : new.n ≡ old.n
  pub notch : new.notch ≡ old.notch

-- and no load has come to above S where none was
abbrev pub StaysLow : Springs → Springs → Type 0
StaysLow old new = AllAtMost scale old.loads → AllAtMost scale new.loads

-- the first n loads are written, and nothing else has moved
pub record Loaded (load : ℕ → ℕ) (n : ℕ) (old new : Springs) : Type 0 where
  pub beside : Beside old new
  pub long : length new.loads ≡ length old.loads
  pub are : (i : ℕ) → i < n → get_or new.loads i 0 ≡ load i
  pub rest : (j : ℕ) → n ≤ j → get_or new.loads j 0 ≡ get_or old.loads j 0

-- the loads of all are, and their sum is handed back
pub record Summed (load : ℕ → ℕ) (old new : Springs) (sum : ℕ) : Type 0 where
  pub loaded : Loaded load old.n old new
  pub sum_is : sum ≡ sum_to load old.n

-- a spring is put after the others
pub record Put (s : Spring) (old new : Springs) : Type 0 where
  pub count : new.n ≡ old.n + 1
  pub notch : new.notch ≡ old.notch
  pub here : spring_in new old.n ≡ s
  pub there : (j : ℕ) → j < old.n → spring_in new j ≡ spring_in old j

-- the springs are those of the first n of some records
pub record Sprung (rows : List Task) (n : ℕ) (s : Springs) : Type 0 where
  pub count : s.n ≡ n
  pub springs : (i : ℕ) → i < n → spring_in s i ≡ spring_of (at rows i)

-- the first record that is not good is an error
abbrev pub found_bad : ℕ → ℕ → Result (Unit {0}) ℕ
found_bad r n = pick (ltb r n) (Err r) (Ok tt)

-- the springs of n records are taken in, or of those before the first that is not good
pub record TakenIn (w q : ℕ) (rows : List Task) (n : ℕ) (r : Result (Unit {0}) ℕ) (s : Springs) : Type 0 where
  pub is : r ≡ found_bad (first_bad w q rows n) n
  pub notch : s.notch ≡ q
  pub sprung : Sprung (priced_rows w rows n) (first_bad w q rows n) s
