-- What a field says: there, with its value and the place after it, or not there. Said once for every kind of field.
-- Assumes nothing.
use Rattle.ground.proofs.Kit.{ℕ, ◌+◌, ◌≤◌, ◌<◌, List, ◌≡◌, sym, ◌∙◌, ap, length, le-leb, lt-leb, Option, Some, None}
use Rattle.ground.proofs.Cases.{by_le}
use Rattle.std.proofs.lemmas.Option.{same_Some, none-some}
use Rattle.field.specs.Field.{front_by, field_by, Got}
use Rattle.field.specs.Number.{number_at}

-- a number at the front: there, or not, and how an answer tells them
module _ {A : Type 0} (size : ℕ) (of : ℕ → A) (s : List ℕ) where
  front-there : size ≤ length s → front_by size of s ≡ Some (of (number_at size s 0))
  unfolding front_by
  front-there h = rw (le-leb size (length s) h)

  front-missing : length s < size → front_by size of s ≡ None
  unfolding front_by
  front-missing h = rw (lt-leb size (length s) h)

  pub front-got : (v : A) → Some v ≡ front_by size of s → (size ≤ length s) × (v ≡ of (number_at size s 0))
  front-got v e =
      by_le size (length s)
      (λ h. (h, same_Some _ _ (e ∙ front-there h)))
      (λ h. absurd (none-some _ (sym (front-missing h) ∙ sym e)))

  pub front-missed : None ≡ front_by size of s → length s < size
  front-missed e = by_le size (length s) (λ h. absurd (none-some _ (e ∙ front-there h))) (λ h. h)

some-pair : {A : Type 0} {v w : A} {m n : ℕ} → ◌≡◌ {A = Option (A × ℕ)} (Some (v, m)) (Some (w, n)) → (v ≡ w) × (m ≡ n)
some-pair e = let p = same_Some _ _ e in (ap (λ x. x.0) p, ap (λ x. x.1) p)

-- the two cases of a field, and how an answer tells them
module _ {A : Type 0} (size : ℕ) (value_at : List ℕ → ℕ → A) (s : List ℕ) (at : ℕ) where
  pub there : at + size ≤ length s → field_by size value_at s at ≡ Some (value_at s at, at + size)
  unfolding field_by
  there h = rw (le-leb (at + size) (length s) h)

  pub missing : length s < at + size → field_by size value_at s at ≡ None
  unfolding field_by
  missing h = rw (lt-leb (at + size) (length s) h)

  pub got : (v : A) (next : ℕ) → Some (v, next) ≡ field_by size value_at s at → Got s at size value_at v next
  got v next e =
      by_le (at + size) (length s)
      (λ h. let q = some-pair (e ∙ there h) in record { within = h; is = q.0; next-is = q.1 })
      (λ h. absurd (none-some _ (sym (missing h) ∙ sym e)))

  pub missed : None ≡ field_by size value_at s at → length s < at + size
  missed e =
      by_le (at + size) (length s) (λ h. absurd (none-some _ (e ∙ there h))) (λ h. h)
