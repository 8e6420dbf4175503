pub mod Choice
pub mod Rounding
pub mod Folds
pub mod Total
pub mod Laid
pub mod First
pub mod Least
pub mod Halving
