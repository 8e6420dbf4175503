pub mod Relief
pub mod Chain
