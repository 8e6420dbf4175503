pub mod Search
pub mod Looked
pub mod Handover
