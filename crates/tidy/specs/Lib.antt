pub mod Tidied
pub mod Handover
