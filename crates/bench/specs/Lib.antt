pub mod Table
pub mod Held
pub mod Sums
