pub mod Sums
pub mod Loads
pub mod RoundingCost
pub mod Worked
