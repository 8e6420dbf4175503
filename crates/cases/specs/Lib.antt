pub mod Bench
pub mod OneCore
pub mod Steps
pub mod Charged
