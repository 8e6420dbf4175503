pub mod Shares
pub mod Columns
