pub mod Rows
pub mod Springs
pub mod Changes
pub mod Examples
pub mod Exactly
