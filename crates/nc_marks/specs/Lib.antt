pub mod Kept
pub mod Marks
pub mod Needed
pub mod Reach
pub mod Sets
