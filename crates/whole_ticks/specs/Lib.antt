pub mod Cells
pub mod Reach
pub mod Round
