pub mod Verdicts
pub mod Compared
pub mod Readings
pub mod Agrees
pub mod Exactly
pub mod Filled
pub mod Lines
pub mod Order
