pub mod Counts
pub mod Dead
pub mod Repeats
pub mod Suite
