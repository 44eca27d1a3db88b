pub mod Facts
pub mod Tested
pub mod Roots
pub mod Accepting
