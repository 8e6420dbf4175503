pub mod Encode
pub mod Writing
pub mod Canonical
pub mod Chain
