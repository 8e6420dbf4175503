pub mod Telling
pub mod Reliefs
