pub mod Tasks
pub mod Tables
pub mod Charges
pub mod Twice
pub mod CaseD
pub mod Under
