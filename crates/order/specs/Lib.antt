pub mod Order
pub mod Index
pub mod Gone
pub mod Handover
