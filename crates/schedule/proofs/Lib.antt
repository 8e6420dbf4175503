pub mod Releases
pub mod Done
pub mod Change
