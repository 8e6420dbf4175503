pub mod Spring
pub mod Allowed
pub mod Springs
pub mod Handover
