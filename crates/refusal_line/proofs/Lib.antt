pub mod Copies
pub mod Fronts
pub mod Lines
