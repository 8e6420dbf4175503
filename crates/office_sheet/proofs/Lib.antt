pub mod Entering
pub mod Taking
pub mod Beyond
