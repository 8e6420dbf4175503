pub mod Fluid
pub mod Parts
pub mod Wrapped
