pub mod Named
pub mod Counts
pub mod Ends
pub mod Memory
pub mod System
