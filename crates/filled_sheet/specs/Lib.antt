pub mod Checked
pub mod Told
pub mod Chain
