-- Texts as lists of rows: the text of a row and more is its line and their text.
-- Assumes nothing.
use Rattle.ground.proofs.Kit.{ℕ, zero, suc, List, [], ◌∷◌, ◌++◌, append-nil, append_assoc, ◌≡◌, refl, sym, ◌∙◌, ap, length}
use Rattle.ground.specs.Folds.{join_to}
use Rattle.kinds.specs.declared.Task.{Task}
use Rattle.kinds.specs.Task.{at}
use Rattle.office.specs.Text.{line_of, text_to, text_of}

pub text-empty : text_of [] ≡ []
unfolding join_to
text-empty = refl

cons-to : (t : Task) (ts : List Task) (n : ℕ) → text_to (t ∷ ts) (suc n) ≡ line_of t ++ text_to ts n
unfolding join_to
cons-to t ts zero = sym (append-nil (line_of t))
cons-to t ts (suc n) =
    ap (λ (x : List ℕ). x ++ line_of (at ts n)) (cons-to t ts n) ∙ append_assoc (line_of t) (text_to ts n) (line_of (at ts n))

pub text-cons : (t : Task) (ts : List Task) → text_of (t ∷ ts) ≡ line_of t ++ text_of ts
text-cons t ts = cons-to t ts (length ts)
