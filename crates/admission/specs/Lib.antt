pub mod Admission
pub mod Handover
pub mod Chain
