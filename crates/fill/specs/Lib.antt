pub mod Results
pub mod Fill
pub mod Chain
