pub mod Jobs
pub mod Schedule
pub mod Periodic
pub mod Change
