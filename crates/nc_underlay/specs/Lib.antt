pub mod Levels
pub mod Distances
pub mod Toward
pub mod Kept
