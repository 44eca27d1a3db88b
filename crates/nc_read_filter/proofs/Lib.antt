pub mod Endings
pub mod LineLaws
