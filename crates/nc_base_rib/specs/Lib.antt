pub mod Nearness
pub mod Links
