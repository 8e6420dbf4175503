pub mod Processors
pub mod Writing
pub mod Found
pub mod Searches
pub mod Outcomes
pub mod Demand
pub mod Exactly
