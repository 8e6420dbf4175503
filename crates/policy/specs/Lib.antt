pub mod Sides
pub mod Passing
pub mod Looks
pub mod Handover
pub mod Under
pub mod Weighed
