pub mod Reasons
pub mod WideReasons
pub mod Numbers
