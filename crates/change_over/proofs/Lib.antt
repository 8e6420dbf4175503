pub mod Sections
pub mod Parts
