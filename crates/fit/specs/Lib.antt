pub mod Fit
pub mod Handover
