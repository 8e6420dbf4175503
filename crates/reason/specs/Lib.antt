pub mod Reason
pub mod WideReason
