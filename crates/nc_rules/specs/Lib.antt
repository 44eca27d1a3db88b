pub mod Rules
pub mod Sameness
pub mod Seen
pub mod Known
