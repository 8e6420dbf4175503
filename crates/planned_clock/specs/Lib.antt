pub mod ClockPlan
