pub mod Exact
pub mod RoundingCost
pub mod Worked
