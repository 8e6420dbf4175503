pub mod Bridge
pub mod Imports
