pub mod Limits
pub mod WideTask
pub mod Cores
pub mod Handover
pub mod Job
