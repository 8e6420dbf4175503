pub mod Limits
pub mod Task
pub mod Policy
pub mod Settings
pub mod Refusal
pub mod Answer
pub mod Chain
