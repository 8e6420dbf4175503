pub mod Text
pub mod Reading
pub mod Carrying
pub mod Handover
pub mod Chain
