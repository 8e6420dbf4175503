pub mod Nexts
pub mod Lines
pub mod Stretches
