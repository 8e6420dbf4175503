pub mod Chain
pub mod Gated
pub mod Opened
pub mod Exactly
pub mod Sentences
