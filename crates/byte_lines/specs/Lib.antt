pub mod Bytes
pub mod Classes
pub mod Lines
pub mod Strings
pub mod Spans
