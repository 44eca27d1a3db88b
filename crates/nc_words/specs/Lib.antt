pub mod Words
pub mod Cases
pub mod Views
pub mod Command
