pub mod Table
pub mod Wide
pub mod Handover
pub mod Chain
