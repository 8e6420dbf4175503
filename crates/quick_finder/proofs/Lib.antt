pub mod Counts
pub mod Looking
pub mod Loop
pub mod Served
pub mod Promises
