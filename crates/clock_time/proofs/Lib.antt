pub mod Unbroken
pub mod Releases
pub mod Lowered
pub mod InStep
pub mod Back
pub mod Standing
pub mod Practice
pub mod Worked
