-- Folds over the numbers below n, each of a function of the number.
-- Assumes nothing.
use Rattle.std.specs.Prelude.{ℕ, zero, suc, ◌+◌, ◌*◌, ◌≤◌, max, Bool, false, List, [], ◌∷◌, ◌++◌, ◌≡◌}
use Rattle.ground.specs.Choice.{bit, either}

unfoldable pub sum_to : (ℕ → ℕ) → ℕ → ℕ
sum_to f zero = 0
sum_to f (suc n) = sum_to f n + f n

-- a sum as a walk works it out, with the bound that its callers need: no term is above `each`
pub record AddedUp (f : ℕ → ℕ) (each n sum : ℕ) : Type 0 where
  pub is : sum ≡ sum_to f n
  pub most : sum ≤ each * n

-- the product of none is 1
unfoldable pub prod_to : (ℕ → ℕ) → ℕ → ℕ
prod_to f zero = 1
prod_to f (suc n) = prod_to f n * f n

-- the max of none is 0
unfoldable pub max_to : (ℕ → ℕ) → ℕ → ℕ
max_to f zero = 0
max_to f (suc n) = max (max_to f n) (f n)

-- at how many numbers the test holds
unfoldable pub count_to : (ℕ → Bool) → ℕ → ℕ
count_to test zero = 0
count_to test (suc n) = count_to test n + bit (test n)

-- whether the test holds at any of them
unfoldable pub any_to : (ℕ → Bool) → ℕ → Bool
any_to test zero = false
any_to test (suc n) = either (any_to test n) (test n)

-- the values, in the order of the numbers
unfoldable pub list_to : {A : Type 0} → (ℕ → A) → ℕ → List A
list_to f zero = []
list_to f (suc n) = list_to f n ++ (f n ∷ [])

-- the lists, one after the other
unfoldable pub join_to : {A : Type 0} → (ℕ → List A) → ℕ → List A
join_to f zero = []
join_to f (suc n) = join_to f n ++ f n
