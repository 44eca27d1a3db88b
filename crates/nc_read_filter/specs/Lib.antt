pub mod Entries
pub mod Lists
pub mod Filters
pub mod Groups
pub mod Readings
