pub mod Line
pub mod Fronts
