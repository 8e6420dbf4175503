-- What is written on a page, and what a call adds to it.
-- Assumes nothing.
use Rattle.std.specs.Prelude.{◌≡◌, ℕ, ◌-◌, List, [], ◌++◌, length, take}
use Rattle.text.specs.declared.Page.{Page}

-- the bytes of a page that are written, which stand at its front
abbrev pub written : Page → List ℕ
written page = take page.len page.room.now

-- how many bytes more a page has room for
abbrev pub left : Page → ℕ
left page = length page.room.now - page.len

-- a page on which nothing is written, with all of a room left
abbrev pub IsNew : Page → List ℕ → Type 0
IsNew page room = (written page ≡ []) × (left page ≡ length room)

-- behind what was written on a page stand as many of some bytes as it had room for, and so much less is left
abbrev pub IsPut : Page → List ℕ → Page → Type 0
IsPut old bytes new = (written new ≡ written old ++ take (left old) bytes) × (left new ≡ left old - length bytes)
