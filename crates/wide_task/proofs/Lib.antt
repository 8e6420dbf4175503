pub mod Records
pub mod Tasks
