pub mod Sizes
pub mod TextLemmas
pub mod ShapeLemmas
