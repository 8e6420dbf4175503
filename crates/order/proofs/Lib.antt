pub mod Counting
pub mod Weights
pub mod Ranks
pub mod Gone
pub mod Columns
pub mod Indexes
pub mod Examples
