-- Document 01's bench cases J and K, which have no star: full compression, which steps pass, and what is granted.
-- Assumes nothing.
use Rattle.std.specs.Prelude.{ℕ, List, [], ◌∷◌, ◌≡◌, length, Some}
use Rattle.ground.specs.Choice.{pick}
use Rattle.ground.specs.Folds.{list_to}
use Rattle.kinds.specs.declared.Policy.TheVariants.{Pooled, FirstFit}
use Rattle.kinds.specs.declared.Task.{Task}
use Rattle.kinds.specs.Task.{task}
use Rattle.share.specs.Table.{shares, full_compression, periods_at}
use Rattle.policy.specs.Passing.{passes_at, least_step}
use Rattle.outcome.specs.Plan.{processors_at}
use Rattle.cases.specs.Bench.{Setting}

abbrev pub case_j : Setting
case_j = record { policy = Pooled; m = 1; tasks = task 1 1 1000000000 1 ∷ task 1 1 1000000000 1 ∷ [] }

abbrev pub rigid : ℕ → Task
rigid c = task c 1000 1000 0

abbrev pub case_k : Setting
case_k =
    record {
      policy = FirstFit;
      m = 3;
      tasks = task 3000 4000 5000 10000 ∷ rigid 450 ∷ rigid 320 ∷ rigid 350 ∷ rigid 300 ∷ rigid 230 ∷ rigid 650 ∷ [];
    }

-- those of some steps at which a setting passes
unfoldable pub passing : Setting → List ℕ → List ℕ
passing s [] = []
passing s (k ∷ rest) = pick (passes_at s.policy s.m (shares s.tasks) (length s.tasks) k) (k ∷ passing s rest) (passing s rest)

-- J has a million steps, so those beside the answer are worked out, and not the least of all
pub record StepsOfJ : Type 0 where
  pub full : full_compression case_j.tasks 2 ≡ 999999
  pub beside : passing case_j (499998 ∷ 499999 ∷ 500000 ∷ 500001 ∷ []) ≡ 500000 ∷ 500001 ∷ []
  pub periods : periods_at 1 case_j.tasks 2 500000 ≡ 2 ∷ 2 ∷ []

-- "Steps 5 and 6 pass, 0 to 4 and 7 to 15 fail; full compression is 15. Answer: step 5, first period 4286, processors 1, 2, 2, 3, 1, 2, 3."
pub record StepsOfK : Type 0 where
  pub full : full_compression case_k.tasks 7 ≡ 15
  pub all : passing case_k (list_to (λ k. k) 16) ≡ 5 ∷ 6 ∷ []
  pub answer : least_step case_k.policy case_k.m (shares case_k.tasks) 7 15 ≡ Some 5
  pub periods : periods_at 1 case_k.tasks 7 5 ≡ 4286 ∷ 1000 ∷ 1000 ∷ 1000 ∷ 1000 ∷ 1000 ∷ 1000 ∷ []
  pub processors : processors_at case_k.policy case_k.m (shares case_k.tasks) 7 5 ≡ 1 ∷ 2 ∷ 2 ∷ 3 ∷ 1 ∷ 2 ∷ 3 ∷ []
