pub mod Deadlines
pub mod Line
pub mod Shared
pub mod Exists
