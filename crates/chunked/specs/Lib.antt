pub mod Faults
pub mod Framing
pub mod Reading
pub mod Written
