pub mod Ends
pub mod Streams
pub mod Ready
pub mod Settles
pub mod GroupLines
pub mod Leaving
