pub mod Inputs
pub mod Filling
