pub mod Keep
pub mod Chain
