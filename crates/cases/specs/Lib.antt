pub mod Messages
pub mod Examples
pub mod Cuts
