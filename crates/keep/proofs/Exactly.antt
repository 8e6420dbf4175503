-- "Given exactly when", of a join and of a leave: `join-exactly`, `leave-exactly`; the numbers that they give are `join-numbers`, `leave-numbers`.
-- Assumes nothing.
use Rattle.ground.proofs.Kit.{ℕ, ◌+◌, ◌-◌, Bool, true, false, List, [], ◌∷◌, ◌≡◌, refl, ◌∙◌, ap, leb, ltb, Ok, Err}
use Rattle.kinds.specs.declared.Task.{Task}
use Rattle.kinds.specs.declared.Refusal.TheVariants.{BadRecord, NoSuchRecord}
use Rattle.kinds.specs.Answer.{check, Verdict}
use Rattle.kinds.specs.Chain.{Check, first_by, first_of, handed_by, Exactly, numbers_given}
use Rattle.kinds.proofs.Chains.{exactly, first-through}
use Rattle.share.specs.Table.{first_bad}
use Rattle.admission.specs.Admission.{and_then}
use Rattle.keep.specs.declared.Kept.{Kept}
use Rattle.keep.specs.Keep.{fresh, joined_rows, left_rows, may_join, may_leave, changed, joined, left}
use Rattle.keep.specs.Chain.{join_chain, leave_chain}

-- a change that a chain judges
changed-chain : (chain : List Check) (old new : Kept) → changed (first_of chain) old new ≡ handed_by old new chain
changed-chain chain old new = first-through (λ v. changed v old new) Err (Ok tt) chain

module _ (w q : ℕ) (k : Kept) (t : Task) where
  -- a join is its chain
  join-chain : joined w q k t
      ≡ handed_by k (fresh w (joined_rows k.table.rows k.table.n t) (k.table.n + 1)) (join_chain w q k.table.rows k.table.n t)
  unfolding joined may_join first_by
  join-chain = changed-chain (join_chain w q k.table.rows k.table.n t) k (fresh w (joined_rows k.table.rows k.table.n t) (k.table.n + 1))

  -- 2, 3 and 6 of a join are given exactly when their sentences hold, the earlier first
  pub join-exactly : Exactly (join_chain w q k.table.rows k.table.n t) k
      (fresh w (joined_rows k.table.rows k.table.n t) (k.table.n + 1)) (joined w q k t)
  join-exactly = exactly (join_chain w q k.table.rows k.table.n t) k _ (joined w q k t) join-chain

-- the numbers of a join, in their order
pub join-numbers : (w q : ℕ) (rows : List Task) (n : ℕ) (t : Task) → numbers_given (join_chain w q rows n t) ≡ 2 ∷ 3 ∷ 6 ∷ []
join-numbers w q rows n t = refl

-- the last two checks of a leave, one after the other
last-two : (bad missing : Bool) (first place : ℕ)
    → and_then (check bad (Err (BadRecord first)) (Ok tt)) (check missing (Err (NoSuchRecord place)) (Ok tt))
    ≡ check bad (Err (BadRecord first)) (check missing (Err (NoSuchRecord place)) (Ok tt))
last-two true missing first place = refl
last-two false missing first place = refl

module _ (w q : ℕ) (k : Kept) (place : ℕ) where
  -- a leave may be made where its chain says so
  may-leave-chain : may_leave w q k.table.rows k.table.n place ≡ first_of (leave_chain w q k.table.rows k.table.n place)
  unfolding may_leave first_by
  may-leave-chain =
      let n = k.table.n in
      let first = first_bad w q k.table.rows n in
      rw (last-two (ltb first n) (leb n place) first place)

  -- a leave is its chain
  leave-chain : left w q k place
      ≡ handed_by k (fresh w (left_rows k.table.rows k.table.n place) (k.table.n - 1)) (leave_chain w q k.table.rows k.table.n place)
  unfolding left
  leave-chain =
      let new = fresh w (left_rows k.table.rows k.table.n place) (k.table.n - 1) in
      ap (λ (v : Verdict). changed v k new) may-leave-chain ∙ changed-chain (leave_chain w q k.table.rows k.table.n place) k new

  -- 2, 3, 6 and 12 of a leave are given exactly when their sentences hold, the earlier first
  pub leave-exactly : Exactly (leave_chain w q k.table.rows k.table.n place) k
      (fresh w (left_rows k.table.rows k.table.n place) (k.table.n - 1)) (left w q k place)
  leave-exactly = exactly (leave_chain w q k.table.rows k.table.n place) k _ (left w q k place) leave-chain

-- the numbers of a leave, in their order
pub leave-numbers : (w q : ℕ) (rows : List Task) (n place : ℕ) → numbers_given (leave_chain w q rows n place) ≡ 2 ∷ 3 ∷ 6 ∷ 12 ∷ []
leave-numbers w q rows n place = refl
