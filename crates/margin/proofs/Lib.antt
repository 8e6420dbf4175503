pub mod Margins
pub mod Exactly
