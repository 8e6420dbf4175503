pub mod Signed
pub mod OneForm
pub mod Totals
pub mod Tests
pub mod Demand
pub mod LookCount
pub mod Under
pub mod Weighing
