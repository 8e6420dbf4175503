-- Bytes that a room can hold are written whole: what `Page::new`, `Page::put` and `Page::write_to` say together.
-- Assumes nothing.
use Rattle.std.specs.Io.KnownBytes.{Appends}
use Rattle.std.proofs.Common.{◌≡◌, ◌≤◌, ℕ, List, ◌++◌, Option, length, take, sym, ap, subst, take_all, ◌∙◌}
use Rattle.text.specs.Page.{written, left, IsNew, IsPut}
use Rattle.text.specs.declared.Page.{Page}

-- put on a new page of that room, they are what is written there
pub put-whole : (new put : Page) (room bytes : List ℕ) → IsNew new room → IsPut new bytes put → length bytes ≤ length room → written put ≡ bytes
put-whole new put room bytes empty added fits =
    let P : ℕ → Type 0 = λ n. length bytes ≤ n in
    let enough = subst P (sym empty.1) fits in
    added.0 ∙ ap (λ front. front ++ take (left new) bytes) empty.0 ∙ take_all (left new) bytes enough

-- and these are what a stream is given
pub write-whole : (new put : Page) (room bytes : List ℕ) (before after : Option (List ℕ)) → IsNew new room → IsPut new bytes put → length bytes ≤ length room
    → Appends before after (written put) → Appends before after bytes
write-whole new put room bytes before after empty added fits appended =
    subst (Appends before after) (put-whole new put room bytes empty added fits) appended
