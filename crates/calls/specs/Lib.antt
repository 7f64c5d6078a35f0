pub mod Calls
pub mod ReaderMeaning
pub mod Traces
pub mod RunLaw
pub mod Theorems
pub mod Mixed
