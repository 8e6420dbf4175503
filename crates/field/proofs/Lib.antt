pub mod Numbers
pub mod Fields
pub mod Stores
pub mod Parts
