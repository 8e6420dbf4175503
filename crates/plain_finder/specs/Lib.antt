pub mod Asked
pub mod Handover
pub mod Chain
