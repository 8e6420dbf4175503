pub mod Back
pub mod Once
pub mod Readings
