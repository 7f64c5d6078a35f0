pub mod LeadingLines
pub mod LineTests
pub mod Stacks
