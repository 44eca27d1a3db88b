pub mod Shapes
pub mod Turns
pub mod Meeting
pub mod Rows
pub mod Requests
pub mod Parsed
