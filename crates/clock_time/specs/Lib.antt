pub mod Time
pub mod Waiting
