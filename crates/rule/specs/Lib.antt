pub mod Rule
pub mod Job
pub mod Tasks
