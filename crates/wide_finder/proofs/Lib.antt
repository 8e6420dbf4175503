pub mod Tables
pub mod Passing
pub mod Admitting
pub mod Found
pub mod Outcomes
pub mod Demand
pub mod Worked
pub mod Exactly
