pub mod Share
pub mod Table
pub mod Handover
pub mod Twice
