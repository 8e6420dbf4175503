pub mod Rows
pub mod Answers
pub mod Back
pub mod Forth
pub mod RoundTrip
pub mod Examples
pub mod Elements
pub mod Exactly
