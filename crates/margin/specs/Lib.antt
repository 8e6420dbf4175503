pub mod Margin
pub mod Chain
