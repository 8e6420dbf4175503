-- The numbers of each row of an array fit their fields: the rule of the kind, which every value by its type has, said of the rows one by one.
-- Assumes nothing.
use Rattle.ground.proofs.Kit.{ℕ, zero, suc, ◌<◌, List, [], ◌∷◌, arith, get_or}
use mir.Val.{Val}
use base.Fml.{Fml}
use denote.Array.{each}
use denote.Builtin.{u16}
use denote.Shadow.{shadow}
use Rattle.kinds.specs.declared.Task.{Task}
use Rattle.kinds.specs.contracts.Task as task-kind
use Rattle.kinds.specs.declared.Granted.{Granted}
use Rattle.kinds.specs.contracts.Granted as granted-kind
use Rattle.kinds.specs.Task.{no_task, at}
use Rattle.field.specs.Number.{limit}
use Rattle.sheet.specs.Rows.{no_granted}
use Rattle.writer.specs.Canonical.{TaskStorable, GrantedStorable}

-- what holds of each row that is owned, and of an unused place, holds at each number
module _ {A : Type 0} (own : A → List Val → Fml) (P : A → Type 0) (one : (a : A) (u : Val) → shadow (own a (u ∷ [])) → P a)
    (none : A) (unused : P none) where
  each_at : (rows : List A) (us : List Val) → shadow (each A own rows us) → (i : ℕ) → P (get_or rows i none)
  each_at [] us s i = unused
  each_at (x ∷ rows) [] s i = absurd s
  each_at (x ∷ rows) (u ∷ us) s zero = one x u s.0
  each_at (x ∷ rows) (u ∷ us) s (suc i) = each_at rows us s.1 i

-- the same of an array of numbers
pub numbers-storable : (rows : List ℕ) (us : List Val) → shadow (each ℕ u16.own_val rows us) → (i : ℕ) → get_or rows i 0 < limit 2
numbers-storable [] us s i = omega arith
numbers-storable (x ∷ rows) [] s i = absurd s
numbers-storable (x ∷ rows) (u ∷ us) s zero = s.0.1
numbers-storable (x ∷ rows) (u ∷ us) s (suc i) = numbers-storable rows us s.1 i

task-storable : (t : Task) (u : Val) → shadow ((task-kind.the_row).own_val t (u ∷ [])) → TaskStorable t
task-storable t u s = record { c = s.1.1.0.1; tmin = s.1.1.1.0.1; tmax = s.1.1.1.1.0.1; e = s.1.1.1.1.1.0.1 }

granted-storable : (g : Granted) (u : Val) → shadow ((granted-kind.the_row).own_val g (u ∷ [])) → GrantedStorable g
granted-storable g u s = record { period = s.1.1.0.1; processor = s.1.1.1.0.1 }

pub tasks-storable : (rows : List Task) (us : List Val)
    → shadow (each (task-kind.the_row).Denot (task-kind.the_row).own_val rows us)
    → (i : ℕ) → TaskStorable (at rows i)
tasks-storable =
    each_at (task-kind.the_row).own_val TaskStorable task-storable no_task
    (record { c = omega arith; tmin = omega arith; tmax = omega arith; e = omega arith })

pub results-storable : (rows : List Granted) (us : List Val)
    → shadow (each (granted-kind.the_row).Denot (granted-kind.the_row).own_val rows us)
    → (i : ℕ) → GrantedStorable (get_or rows i no_granted)
results-storable =
    each_at (granted-kind.the_row).own_val GrantedStorable granted-storable no_granted
    (record { period = omega arith; processor = omega arith })
