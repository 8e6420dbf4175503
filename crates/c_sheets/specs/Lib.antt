pub mod Sheets
pub mod Back
