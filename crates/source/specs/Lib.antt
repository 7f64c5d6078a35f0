pub mod Meanings
pub mod Slices
pub mod Texts
