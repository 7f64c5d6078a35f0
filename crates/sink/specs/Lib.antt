pub mod Meanings
pub mod Values
