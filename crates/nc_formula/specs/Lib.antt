pub mod Formulas
pub mod Parts
pub mod Session
pub mod Tasks
