pub mod Next
pub mod Division
pub mod Handover
