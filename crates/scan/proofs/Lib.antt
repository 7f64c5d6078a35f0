pub mod Endings
pub mod BodyPlaces
pub mod ReadyBytes
pub mod BodyMoves
pub mod Stops
pub mod LinePasses
