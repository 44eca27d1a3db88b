pub mod Wildcards
pub mod Naming
pub mod Classes
pub mod Spotting
pub mod Going
pub mod Saying
pub mod Forming
