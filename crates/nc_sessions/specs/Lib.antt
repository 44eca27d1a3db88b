pub mod Views
pub mod Statements
pub mod Parts
pub mod Ids
