pub mod RowSteps
pub mod Makings
pub mod Keeping
pub mod Closings
pub mod Betweens
