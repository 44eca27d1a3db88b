pub mod Words
pub mod CaseWords
pub mod Held
