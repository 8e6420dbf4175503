pub mod Shares
pub mod Periods
pub mod Jobs
