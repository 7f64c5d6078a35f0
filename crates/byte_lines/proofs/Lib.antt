pub mod FirstLines
pub mod LineLaws
pub mod LineFronts
