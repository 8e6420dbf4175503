-- The part that a change-over names stands in the sheet that it is a part of, `part-fits`, and no second answer meets the promise.
-- Assumes nothing.
use Rattle.ground.proofs.Kit.{ℕ, ◌+◌, ◌-◌, ◌*◌, ◌≤◌, Option, Some, None, List, ◌≡◌, refl, sym, ◌∙◌, arith, length, take, drop}
use Rattle.kinds.specs.Limits.{most_settings, most_tasks}
use Rattle.sheet.specs.Sections.{task_size, records_place, results_place}
use Rattle.change_over.specs.declared.Which.{Which}
use Rattle.change_over.specs.declared.Which.TheVariants.{Standing, Proposed}
use Rattle.change_over.specs.declared.Part.{Part}
use Rattle.change_over.specs.ChangeOver.{section_of, tasks_part, tasks_or, empty_front, change_over, one_of, IsPart}
use Rattle.change_over.proofs.Sections.{section-fits}

-- a task section is told by its place and its size
pub tasks-part : (which : Which) (settings n from size : ℕ) → from ≡ records_place settings → size ≡ task_size * n
    → record { which = which; from = from; size = size } ≡ tasks_part which settings n
tasks-part which settings n from size a b = λ i. record { which = which; from = a i; size = b i }

-- the three answers
module _ (standing proposed : List ℕ) where
  pub takes-proposed : (settings n : ℕ) → section_of proposed ≡ Some (settings, n) → tasks_part Proposed settings n ≡ change_over standing proposed
  unfolding change_over
  takes-proposed settings n p = rw p

  pub takes-standing : section_of proposed ≡ None → (settings n : ℕ) → section_of standing ≡ Some (settings, n)
      → tasks_part Standing settings n ≡ change_over standing proposed
  unfolding change_over
  takes-standing p settings n q = rw (p, q)

  pub takes-nothing : section_of proposed ≡ None → section_of standing ≡ None → empty_front ≡ change_over standing proposed
  unfolding change_over
  takes-nothing p q = rw (p, q)

  -- it ends where a full task section ends, or before, and not past the sheet
  abbrev Fits : Part → Type 0
  Fits part =
      (part.from + part.size ≤ results_place most_settings most_tasks) × (part.from + part.size ≤ length (one_of part.which standing proposed))

  tasks-fit : (which : Which) (section : Option (ℕ × ℕ)) (other : Part) → section_of (one_of which standing proposed) ≡ section → Fits other
      → Fits (tasks_or which section other)
  tasks-fit which (Some section) other e fits =
      let few = section-fits (one_of which standing proposed) section.0 section.1 e in
      (omega (arith, few), omega (arith, few))
  tasks-fit which None other e fits = fits

  pub part-fits : (part : Part) → part ≡ change_over standing proposed → Fits part
  unfolding change_over
  part-fits part e =
      rw e
      (tasks-fit Proposed (section_of proposed) (tasks_or Standing (section_of standing) empty_front) refl
      (tasks-fit Standing (section_of standing) empty_front refl (omega arith, omega arith)))

-- the part that is lent, of the sheet that it names
module _ (standing proposed : List ℕ) (standing_at proposed_at : ℕ × ℕ) (part : Part) (is : part ≡ change_over standing proposed)
    (which : Which) (named : part.which ≡ which) where
  pub lent_fits : part.from + part.size ≤ length (one_of which standing proposed)
  lent_fits = rw named at (part-fits standing proposed part is).1

  pub lent : (end : ℕ) → end ≡ part.from + part.size
      → IsPart (change_over standing proposed) standing proposed standing_at proposed_at
      (take (end - part.from) (drop part.from (one_of which standing proposed)))
      ((one_of which standing_at proposed_at).0, part.from + (one_of which standing_at proposed_at).1)
  lent end e =
      let size : end - part.from ≡ part.size = omega (arith, e) in
      rw (← is, named, size) (record { bytes = refl; place = refl })

-- two answers that are the same part have the same bytes and stand in the same place
pub change-over-one : (part : Part) (standing proposed : List ℕ) (standing_at proposed_at : ℕ × ℕ) (a b : List ℕ) (a_at b_at : ℕ × ℕ)
    → IsPart part standing proposed standing_at proposed_at a a_at → IsPart part standing proposed standing_at proposed_at b b_at → (a ≡ b) × (a_at ≡ b_at)
change-over-one part standing proposed standing_at proposed_at a b a_at b_at x y = (x.bytes ∙ sym y.bytes, x.place ∙ sym y.place)
