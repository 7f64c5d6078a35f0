pub mod Roles
pub mod HeadLines
pub mod BodyRuns
pub mod Rowing
pub mod Stretching
pub mod HeadSpans
