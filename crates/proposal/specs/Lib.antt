pub mod Loads
pub mod Proposal
pub mod Handover
pub mod Chain
