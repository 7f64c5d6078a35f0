pub mod Cuts
pub mod Pulling
