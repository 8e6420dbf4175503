pub mod Sections
pub mod Rows
pub mod Reading
pub mod Handover
pub mod Chain
