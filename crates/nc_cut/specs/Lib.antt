pub mod Cuts
pub mod Known
pub mod Pages
pub mod Sizes
