pub mod Opened
pub mod Fits
