pub mod Ascending
pub mod Activity
pub mod Parts
pub mod ByTurns
pub mod Passing
pub mod Alone
pub mod Tabling
pub mod Counting
