pub mod Tree
pub mod Shape
pub mod Files
pub mod Cases
