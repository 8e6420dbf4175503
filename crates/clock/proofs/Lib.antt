pub mod Wrap
pub mod Greatest
pub mod Starts
pub mod Calls
pub mod Exactly
