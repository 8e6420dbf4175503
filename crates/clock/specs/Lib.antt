pub mod Ticks
pub mod Start
pub mod Call
pub mod Handover
pub mod Chain
