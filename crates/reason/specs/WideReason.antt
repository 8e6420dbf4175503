-- The reasons for which a task that needs several cores is not good, in Ask 4's order.
-- Assumes nothing.
use Rattle.std.specs.Prelude.{ℕ, ◌*◌, ◌≤◌, ◌<◌, leb, ltb, Option, Some, None}
use Rattle.ground.specs.Choice.{pick}
use Rattle.kinds.specs.Limits.{longest_period, greatest_elasticity}
use Rattle.wide_task.specs.declared.WideTask.{WideTask}
use Rattle.wide_task.specs.Limits.{most_tmins}
use Rattle.wide_task.specs.WideTask as wide
use Rattle.reason.specs.declared.WideReason.{WideReason}
use Rattle.reason.specs.declared.WideReason.TheVariants.{NoSpan, SpanNotBelowTmin, SpanNotBelowCost, CostNotAboveTmax, CostTooGreat}
use Rattle.reason.specs.declared.WideReason.TheVariants.{TminAboveTmax, TmaxTooLong, ElasticityTooGreat}

-- "C at most 16 × Tmin, and Tmax and E as in 01": the first that fails
unfoldable pub rest_reason : WideTask → Option WideReason
rest_reason t =
    pick (ltb (most_tmins * t.tmin) t.c) (Some CostTooGreat)
    (pick (ltb t.tmax t.tmin) (Some TminAboveTmax)
    (pick (ltb longest_period t.tmax) (Some TmaxTooLong)
    (pick (ltb greatest_elasticity t.e) (Some ElasticityTooGreat) None)))

-- "1 ≤ L < Tmin, L < C, Tmax < C", and then the rest: the first that fails
unfoldable pub wide_reason_of : WideTask → Option WideReason
wide_reason_of t =
    pick (ltb t.l 1) (Some NoSpan)
    (pick (leb t.tmin t.l) (Some SpanNotBelowTmin)
    (pick (leb t.c t.l) (Some SpanNotBelowCost)
    (pick (leb t.c t.tmax) (Some CostNotAboveTmax)
    (rest_reason t))))

-- the limits of the span, and that C is above Tmax
abbrev pub Spans : WideTask → Type 0
Spans t = (1 ≤ t.l) × (t.l < t.tmin) × (t.l < t.c) × (t.tmax < t.c)

-- what a reason says of a record: its own limit is broken, and those before it are kept; none says that all are
abbrev pub WideSays : WideTask → Option WideReason → Type 0
WideSays t (Some NoSpan) = t.l < 1
WideSays t (Some SpanNotBelowTmin) = (1 ≤ t.l) × (t.tmin ≤ t.l)
WideSays t (Some SpanNotBelowCost) = (1 ≤ t.l) × (t.l < t.tmin) × (t.c ≤ t.l)
WideSays t (Some CostNotAboveTmax) = (1 ≤ t.l) × (t.l < t.tmin) × (t.l < t.c) × (t.c ≤ t.tmax)
WideSays t (Some CostTooGreat) = Spans t × (most_tmins * t.tmin < t.c)
WideSays t (Some TminAboveTmax) = Spans t × (t.c ≤ most_tmins * t.tmin) × (t.tmax < t.tmin)
WideSays t (Some TmaxTooLong) = Spans t × (t.c ≤ most_tmins * t.tmin) × (t.tmin ≤ t.tmax) × (longest_period < t.tmax)
WideSays t (Some ElasticityTooGreat) =
    Spans t × (t.c ≤ most_tmins * t.tmin) × (t.tmin ≤ t.tmax) × (t.tmax ≤ longest_period) × (greatest_elasticity < t.e)
WideSays t None = wide.Good t

-- the number that tells a reason: 0 where there is none, then the limits in their order
abbrev pub wide_reason_number : Option WideReason → ℕ
wide_reason_number None = 0
wide_reason_number (Some NoSpan) = 1
wide_reason_number (Some SpanNotBelowTmin) = 2
wide_reason_number (Some SpanNotBelowCost) = 3
wide_reason_number (Some CostNotAboveTmax) = 4
wide_reason_number (Some CostTooGreat) = 5
wide_reason_number (Some TminAboveTmax) = 6
wide_reason_number (Some TmaxTooLong) = 7
wide_reason_number (Some ElasticityTooGreat) = 8
