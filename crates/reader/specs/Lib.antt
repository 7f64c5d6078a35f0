pub mod Answers
pub mod Stages
pub mod Readers
pub mod Nexts
