-- Laws of ticks that wrap at 32 bits. The last carries lateness over to time that does not wrap.
-- Assumes nothing.
use Rattle.ground.proofs.Kit.{ℕ, suc, ◌+◌, ◌-◌, ◌%◌, ◌≤◌, ◌<◌, ◌≡◌, ◌∙◌, arith, ltb, lt-ltb, le-ltb}
use Rattle.ground.proofs.Cases.{by_bool, by_le}
use Rattle.std.specs.Bool.{then_some}
use Rattle.clock.specs.Ticks.{turn, half_turn, behind, late}
use Rattle.clock.specs.Handover.{late_of}

-- a task that is due, and one that is not
pub late_due : (present next : ℕ) → behind present next < half_turn → late present next ≡ suc (behind present next)
unfolding late
late_due present next h = rw (lt-ltb (behind present next) half_turn h)

pub late-not : (present next : ℕ) → half_turn ≤ behind present next → late present next ≡ 0
unfolding late
late-not present next h = rw (le-ltb (behind present next) half_turn h)

-- both in one
pub late-then : (present next : ℕ) → late_of (then_some (ltb (behind present next) half_turn) (behind present next)) ≡ late present next
unfolding late
late-then present next = by_bool (ltb (behind present next) half_turn) (λ t. rw t) (λ f. rw f)

pub due-late : (present next : ℕ) → 0 < late present next → behind present next < half_turn
due-late present next h =
    by_le (suc (behind present next)) half_turn (λ l. l) (λ l. absurd (omega (arith, late-not present next (omega arith))))

-- a next release that is not after t, and less than half a turn before it, is as far behind as in unbroken time
pub behind-due : (t x : ℕ) → x ≤ t → t < x + half_turn → behind (t % turn) (x % turn) ≡ t - x
unfolding behind
behind-due t x a b = omega arith

-- one that is after t, and at most half a turn after it, is not due
pub behind-not : (t x : ℕ) → t < x → x ≤ t + half_turn → half_turn ≤ behind (t % turn) (x % turn)
unfolding behind
behind-not t x a b = omega arith

-- a sum that wraps is the sum in unbroken time, wrapped
pub add_wraps : (x period : ℕ) → (x % turn + period) % turn ≡ (x + period) % turn
add_wraps x period = omega arith

-- within half a turn on either side lateness on 32 bits is lateness in unbroken time
pub late_is : (t x : ℕ) → x ≤ t + half_turn → t < x + half_turn → late (t % turn) (x % turn) ≡ suc t - x
late_is t x a b =
    by_le x t
    (λ h. let e : behind (t % turn) (x % turn) ≡ t - x = behind-due t x h b in
    late_due (t % turn) (x % turn) (omega arith) ∙ omega arith)
    (λ h. late-not (t % turn) (x % turn) (behind-not t x h a) ∙ omega arith)
