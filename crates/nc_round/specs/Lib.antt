pub mod Keys
pub mod Rows
pub mod Parts
pub mod Next
pub mod Waking
pub mod Changes
pub mod Renewing
pub mod Likeness
