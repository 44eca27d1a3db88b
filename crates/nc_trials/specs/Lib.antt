pub mod Ending
pub mod Verdict
pub mod Trial
