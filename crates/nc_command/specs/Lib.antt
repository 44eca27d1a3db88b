pub mod Command
pub mod Cutting
