pub mod Limits
pub mod Load
pub mod Reasons
pub mod Reading
pub mod Entering
pub mod Loading
