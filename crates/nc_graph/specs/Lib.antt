pub mod Closure
pub mod Derivation
pub mod Flow
pub mod Lists
pub mod Nodes
pub mod Tasks
pub mod Walk
