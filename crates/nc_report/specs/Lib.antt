pub mod Views
pub mod Files
pub mod Texts
pub mod Counters
pub mod Sheets
pub mod Shown
pub mod Listings
pub mod Values
