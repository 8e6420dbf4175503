pub mod Records
pub mod Policies
pub mod Numbers
pub mod Refusals
pub mod Answers
pub mod Chain
pub mod Chains
