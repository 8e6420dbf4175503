-- How long a sheet is.
-- Assumes nothing.
use Rattle.ground.proofs.Kit.{ℕ, ◌+◌, ◌*◌, ◌≤◌, ◌≡◌, refl, arith}
use Rattle.kinds.specs.Limits.{most_settings, most_tasks}
use Rattle.sheet.specs.Sections.{tasks_place, end_place, longest_sheet}

-- Ask 2: "A sheet is then 6 + 2s + 16n + 6r bytes for s settings, the reader's place for 3 is 2 + 2s, and the greatest length follows"
pub end_is : (s n r : ℕ) → end_place s n r ≡ 6 + 2 * s + 16 * n + 6 * r
end_is s n r = omega arith

pub tasks-at : (s : ℕ) → tasks_place s ≡ 2 + 2 * s
tasks-at s = refl

pub end-most : (s n r : ℕ) → s ≤ most_settings → n ≤ most_tasks → r ≤ most_tasks → end_place s n r ≤ longest_sheet
end-most s n r a b d = omega arith

pub longest-is : longest_sheet ≡ 720
longest-is = refl
